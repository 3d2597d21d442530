-- What follows for every history: it holds of worked ones, and each of its facts is false of a wrong one.
use Rattle.std.proofs.Common.{◌≡◌, ℕ, zero, suc, ◌<◌, true, false, List, [], ◌∷◌, ◌++◌, None, Some, IsSomeAnd, refl}
use Rattle.std.proofs.Common.{sym, ap, ◌∙◌, subst, get_or, slice_get, Contains, lit<, lit≤, arith}
use Rattle.std.specs.List.{AllByRecursion}
use Rattle.std.proofs.lemmas.Bool.{ne_eqb}
use Rattle.map_codec.specs.declared.element.Element.{Element}
use Rattle.sched_calls.specs.declared.spec.FlowSpec.TheVariants.{BestEffort}
use Rattle.sched_calls.proofs.Base.{base, the_base_is_lawful}
use Rattle.periodic.specs.Placement.{Placed, AreFree, due_in}
use Rattle.periodic.proofs.RowsPlacement.{voice, placement, first_placed}
use Rattle.sched_calls.specs.declared.frame_map.FrameMap.{FrameMap}
use Rattle.map_build.specs.FrameMap.{request_region, null_element}
use Rattle.sched_calls.specs.declared.opportunity.Usage.TheVariants.{Initial}
use Rattle.sched_calls.proofs.BaseMaps.{element, base_map, first_map}
use Rattle.sched_calls.specs.declared.amount.Amount.TheVariants.{Bytes}
use Rattle.sched_calls.specs.declared.call.Call.TheVariants.{Admit, Ask, Build, Reserve}
use Rattle.sched_calls.specs.declared.reply.Reply.TheVariants.{Admitted, Taken, Built, Reserved}
use Rattle.sched_calls.specs.declared.reply.Entry.{Entry}
use Rattle.sched_history.specs.Life.{Life, flow_in_life, flows_of, table_of}
use Rattle.map_build.specs.declared.met.Met.{Met}
use Rattle.map_build.specs.Reading.{meets_place, met_in}
use Rattle.sched_history.specs.Reserves.{reserves_of, waiting_in, met_after}
use Rattle.sched_history.specs.Ranging.{StandsIn}
use Rattle.sched_history.specs.Facts.{IsWithinAsked, IsWithinRate, IsWithinPeak, OffsetsAscend, IsOnTime, HoldsAfter}
use Rattle.sched_history.proofs.lives.LiveFlows.{flows_of-one, table_of-one, table_of-none}
use Rattle.sched_history.proofs.rows.TwoMaps.{entry, built, admitted, asked, granted, two_maps_of_one_flow}
use Rattle.sched_history.proofs.facts.FactsOf.{holds_after}

-- it holds after a MAP, an admission, a request and its grant
pub two_maps_keep_the_facts : HoldsAfter base (built ∷ admitted ∷ asked ∷ granted ∷ [])
two_maps_keep_the_facts =
    holds_after base (built ∷ admitted ∷ asked ∷ granted ∷ []) the_base_is_lawful two_maps_of_one_flow

-- the grant of a flow that asked nothing
abbrev unasked : List Entry
unasked = admitted ∷ granted ∷ []

abbrev unasked_life : Life
unasked_life = record { admission = record { spec = BestEffort 3 0 0 0 0 0; placement = None }; since = granted ∷ [] }

-- is past what it asked
pub a_grant_past_the_requests_is_refused : HoldsAfter base unasked → ⊥
a_grant_past_the_requests_is_refused holds =
    let flows : flows_of base unasked ≡ flow_in_life base 17 unasked_life ∷ [] =
    flows_of-one base unasked 17 unasked_life (lit≤ tt) (lit≤ tt) refl
    (λ sid other. rw (ne_eqb 17 sid (λ e. other (sym e)))) in
    let fact : AllByRecursion IsWithinAsked (flow_in_life base 17 unasked_life ∷ []) = rw flows at holds.within_asked in
    absurd (omega (arith, fact.0))

-- the grant of 100 bytes to a flow with a burst of 64
abbrev limited : Entry
limited = entry 1 (Admit 17 (BestEffort 3 1 64 0 0 0)) (Admitted None)

abbrev limited_life : Life
limited_life =
    record { admission = record { spec = BestEffort 3 1 64 0 0 0; placement = None }; since = asked ∷ granted ∷ [] }

-- is past its ceiling
pub a_grant_past_the_ceiling_is_refused : HoldsAfter base (limited ∷ asked ∷ granted ∷ []) → ⊥
a_grant_past_the_ceiling_is_refused holds =
    let flows : flows_of base (limited ∷ asked ∷ granted ∷ []) ≡ flow_in_life base 17 limited_life ∷ [] =
    flows_of-one base (limited ∷ asked ∷ granted ∷ []) 17 limited_life (lit≤ tt) (lit≤ tt) refl
    (λ sid other. rw (ne_eqb 17 sid (λ e. other (sym e)))) in
    let fact : AllByRecursion (IsWithinRate base)
    (flow_in_life base 17 limited_life ∷ []) = rw flows at holds.within_rate in
    absurd (omega (arith, fact.0 (lit< tt) 0 0 (lit≤ tt) (lit< tt)))

-- a flow with a peak rate and no ceiling that asks for 2000 bytes, and a grant of more than a frame of Ethernet to it
abbrev at_once : List Entry
at_once = entry 2 (Ask 0 17 (Bytes 2000) 801) Taken ∷ entry 3 (Build 800) (Built (base_map 840 800
    (element 0x3fff 1 0 ∷ element 17 6 4 ∷ element 0 7 40 ∷ []) (0 ∷ 1523 ∷ 0 ∷ []))) ∷ []

abbrev peaking : List Entry
peaking = entry 1 (Admit 17 (BestEffort 3 0 0 64000 0 0)) (Admitted None) ∷ at_once

abbrev peaking_life : Life
peaking_life = record { admission = record { spec = BestEffort 3 0 0 64000 0 0; placement = None }; since = at_once }

-- is past its peak rate
pub a_grant_past_the_peak_is_refused : HoldsAfter base peaking → ⊥
a_grant_past_the_peak_is_refused holds =
    let flows : flows_of base peaking ≡ flow_in_life base 17 peaking_life ∷ [] =
    flows_of-one base peaking 17 peaking_life (lit≤ tt) (lit≤ tt) refl
    (λ sid other. rw (ne_eqb 17 sid (λ e. other (sym e)))) in
    let fact : AllByRecursion (IsWithinPeak base)
    (flow_in_life base 17 peaking_life ∷ []) = rw flows at holds.within_peak in
    absurd (omega (arith, fact.0 (lit< tt) 0 0 (lit≤ tt) (lit< tt)))

-- the second MAP with its idle at the start of its grant
abbrev overlapping : FrameMap
overlapping =
    base_map 840 800 (element 0x3fff 1 0 ∷ element 17 6 4 ∷ element 0 6 4 ∷ element 0 7 40 ∷ []) (0 ∷ 100 ∷ 0 ∷ 0 ∷ [])

overlap : (allocations behind : List Element)
    → overlapping.wire.elements ≡ request_region ∷ (allocations ++ null_element base ∷ behind)
    → OffsetsAscend (request_region ∷ (allocations ++ null_element base ∷ [])) → ⊥
overlap [] behind whole ascend = let same : element 17 6 4 ≡ null_element base = cc in
    absurd (omega (arith, ap (λ (e : Element). e.iuc) same))
overlap (a ∷ []) behind whole ascend = let same : element 0 6 4 ≡ null_element base = cc in
    absurd (omega (arith, ap (λ (e : Element). e.iuc) same))
overlap (a ∷ b ∷ rest) behind whole ascend =
    let first : element 17 6 4 ≡ a = cc in
    let second : element 0 6 4 ≡ b = cc in
    absurd (omega (arith, ascend.1.0, ap (λ (e : Element). e.offset) first, ap (λ (e : Element). e.offset) second))

-- has no front
pub allocations_that_overlap_are_refused : HoldsAfter base (entry 0 (Build 800) (Built overlapping) ∷ []) → ⊥
allocations_that_overlap_are_refused holds =
    let front = holds.orderly.0.front in overlap front.allocations front.behind front.whole front.ascend

-- two MAPs of one frame
pub two_maps_of_one_frame_are_refused : HoldsAfter base (built ∷ built ∷ []) → ⊥
two_maps_of_one_frame_are_refused holds = absurd (omega (arith, holds.starts_ascend.1.0.0))

-- a request accepted below the acknowledge time of a MAP before it
pub an_acknowledged_request_is_refused : HoldsAfter base (built ∷ admitted ∷ entry 2 (Ask 0 17
    (Bytes 100) 799) Taken ∷ []) → ⊥
an_acknowledged_request_is_refused holds = absurd (omega (arith, holds.heard_after.1.1.0.0))

only : (flow other : Placed) (k : ℕ) → k < 1 → get_or (flow ∷ []) k other ≡ other → flow ≡ other
only flow other zero within at = at
only flow other (suc k) within at = absurd (omega arith)

-- an unsolicited grant one minislot past its window: nominal at 804, with a jitter of 32
abbrev late_grant : FrameMap
late_grant =
    base_map 800 800 (element 0x3fff 1 0 ∷ element 0 6 4 ∷ element 5 6 37 ∷ element 0 7 40 ∷ []) (0 ∷ 0 ∷ 0 ∷ 0 ∷ [])

abbrev voiced : Entry
voiced = entry 0 (Admit 5 voice) (Admitted (Some (placement 804 (4 ∷ 4 ∷ []))))

abbrev voiced_life : Life
voiced_life = record { admission = record { spec = voice; placement = Some (placement 804 (4 ∷ 4 ∷ [])) }; since = [] }

-- is not on time
pub a_late_unsolicited_grant_is_refused : HoldsAfter base (voiced ∷ entry 1 (Build 760) (Built late_grant) ∷ []) → ⊥
a_late_unsolicited_grant_is_refused holds =
    let table : table_of (voiced ∷ []) ≡ first_placed ∷ [] =
    table_of-one (voiced ∷ []) 5 voiced_life first_placed (lit≤ tt) (lit≤ tt) refl refl
    (λ sid other. rw (ne_eqb 5 sid (λ e. other (sym e)))) in
    let says : (flow : Placed) × IsOnTime base (table_of (voiced ∷ [])) 800 (element 5 6 37) flow =
    holds.on_time.1.0.1.1.0 (record { in_frame = lit< tt; to_flow = refl; unasked = refl; unreserved = refl }) in
    let live : Contains (first_placed ∷ []) says.0 = rw table at says.1.live in
    let timed : IsOnTime base (table_of (voiced ∷ [])) 800 (element 5 6 37) first_placed =
    subst (IsOnTime base (table_of (voiced ∷ [])) 800 (element 5 6 37))
    (sym (only first_placed says.0 live.0 live.1 live.2)) says.1 in
    absurd (omega (arith, timed.within_jitter))

-- a Reserve of 8 minislots
abbrev reserved : Entry
reserved = entry 0 (Reserve Initial 8) Reserved

-- what a MAP with an idle at 4 meets of it
abbrev met_in_idle : List Met
met_in_idle = met_in base (due_in base 20 []) (record { usage = Initial; slots = 8 } ∷ []) first_map.wire.elements

-- no element of that MAP is an opportunity
passed : (n : ℕ) → slice_get first_map.wire.elements n ≡ Some (element 0x3fff 3 4) → ⊥
passed zero is = let same : element 0x3fff 1 0 ≡ element 0x3fff 3 4 = cc in
    absurd (omega (arith, ap (λ (e : Element). e.iuc) same))
passed (suc zero) is = let same : element 0 6 4 ≡ element 0x3fff 3 4 = cc in
    absurd (omega (arith, ap (λ (e : Element). e.iuc) same))
passed (suc (suc zero)) is = let same : element 0 7 40 ≡ element 0x3fff 3 4 = cc in
    absurd (omega (arith, ap (λ (e : Element). e.iuc) same))
passed (suc (suc (suc n))) is = absurd (cc)

-- a MAP that passes it over, though its frame is idle
pub a_reserve_that_is_passed_over_is_refused :
    HoldsAfter base (reserved ∷ entry 1 (Build 760) (Built first_map) ∷ []) → ⊥
a_reserve_that_is_passed_over_is_refused holds =
    let none : table_of (reserved ∷ []) ≡ [] = table_of-none (reserved ∷ []) (λ sid. refl) in
    let met : met_after base (reserved ∷ []) (Built first_map) ≡ met_in_idle =
    ap (λ table. met_in base (due_in base 20 table) (record { usage = Initial; slots = 8 } ∷ [])
    first_map.wire.elements) none in
    let stands : AllByRecursion (λ x. IsSomeAnd
    (slice_get (waiting_in (reserves_of base (reserved ∷ []))) x.place)
    (StandsIn base first_map.wire.elements first_map.bytes x)) met_in_idle = rw met at holds.ranging.met_stand.1.0 in
    passed stands.0.index stands.0.element

-- a MAP without what it is to have at 4
abbrev nothing : FrameMap
nothing = base_map 800 800 (element 0x3fff 1 0 ∷ element 0 7 40 ∷ []) (0 ∷ 0 ∷ [])

-- is refused too, since it meets nothing though there is a gap
pub a_gap_that_is_passed_over_is_refused :
    HoldsAfter base (reserved ∷ entry 1 (Build 760) (Built nothing) ∷ []) → ⊥
a_gap_that_is_passed_over_is_refused holds =
    let none : table_of (reserved ∷ []) ≡ [] = table_of-none (reserved ∷ []) (λ sid. refl) in
    let free : AreFree (due_in base 20 (table_of (reserved ∷ []))) 4 8 =
    subst (λ placed. AreFree (due_in base 20 placed) 4 8) (sym none) tt in
    let met : met_after base (reserved ∷ []) (Built nothing) ≡ [] =
    ap (λ table. met_in base (due_in base 20 table) (record { usage = Initial; slots = 8 } ∷ [])
    nothing.wire.elements) none in
    let meets : meets_place (met_after base (reserved ∷ []) (Built nothing)) 0 ≡ true =
    (holds.ranging.first_met.1.0 refl (record { usage = Initial; slots = 8 }) refl).0.1
    (record { from = 4; behind = lit≤ tt; within = lit≤ tt; free = free }) in
    let fails : false ≡ true = sym (ap (λ met. meets_place met 0) met) ∙ meets in
    absurd (cc)
