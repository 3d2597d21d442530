-- Every poll and unsolicited grant of a legal history is on time.
use Rattle.std.proofs.Common.{◌≡◌, ℕ, ◌/◌, ◌%◌, Bool, true, false, if◌then◌else◌, None, Some, map, filter, List}
use Rattle.std.proofs.Common.{[], ◌∷◌, ◌++◌, refl, sym, ◌∙◌, subst, Contains, arith}
use Rattle.std.specs.List.{AllByRecursion, zip}
use Rattle.std.proofs.lemmas.List.Elements.{All-contains, All-from_recursion}
use Rattle.minislots.specs.declared.config.Config.{Config}
use Rattle.minislots.specs.Config.{IsLawful}
use Rattle.minislots.proofs.Bounds.{bounds_of}
use Rattle.map_codec.specs.declared.element.Element.{Element}
use Rattle.sched_calls.specs.FlowSpec.{interval_frames}
use Rattle.flow_book.specs.Flows.{LiveFlow}
use Rattle.flow_book.specs.Shown.{is_shown}
use Rattle.periodic.specs.declared.placement.Spot.{Spot}
use Rattle.periodic.specs.Placement.{Placed, phase_of, starts_in, spot_at, spots_of, spots_in, due_of, due_in}
use Rattle.periodic.proofs.Frames.{IsStartIn, starts-here, in-cycle}
use Rattle.periodic.proofs.Joined.{all-map}
use Rattle.periodic.proofs.Resting.{all-due-of}
use Rattle.map_build.specs.EachAfter.{EachAfter}
use Rattle.sched_calls.specs.declared.opportunity.Header.{Header}
use Rattle.map_build.specs.declared.purpose.Allocation.{Allocation}
use Rattle.map_build.specs.declared.purpose.Purpose.{Purpose}
use Rattle.map_build.specs.declared.purpose.Purpose.TheVariants.{Poll, UnsolicitedGrant, Offer, DataGrant, Idle}
use Rattle.map_build.specs.Purpose.{broadcast, is_open, place_of, element_of, bytes_in}
use Rattle.map_build.specs.Plan.{Demand, flows_after, IsOfClass, Stands}
use Rattle.map_build.specs.FrameMap.{null_element, pending_of, pending, map_of}
use Rattle.sched_calls.specs.declared.call.Call.{Call}
use Rattle.sched_calls.specs.declared.reply.Reply.{Reply}
use Rattle.sched_calls.specs.declared.reply.Reply.TheVariants as replies
use Rattle.sched_calls.specs.declared.reply.Entry.{Entry}
use Rattle.sched_history.specs.Life.{table_of}
use Rattle.sched_history.specs.Time.{next_after, ack_after}
use Rattle.sched_history.specs.Refusal.{bad_sid}
use Rattle.sched_history.specs.Headers.{header_after}
use Rattle.sched_history.specs.Reserves.{met_after}
use Rattle.sched_history.specs.History.{demand_after, IsNextMap, IsStep, IsLegal}
use Rattle.sched_history.specs.Facts.{head_for, IsPeriodic, IsOnTime, KeepsTimes}
use Rattle.sched_history.proofs.steps.LegalHistories.{IsNextMap-from_step, EachAfter-from_legal}
use Rattle.sched_history.proofs.steps.LegalBounds.{next_after-aligned}
use Rattle.map_build.proofs.SameSpots.{all-members}
use Rattle.sched_history.proofs.lists.Members.{all-flat_map, Contains-first, Contains-later}
use Rattle.sched_history.proofs.placements.NominalTimes.{reference_past, interval_divides, place_rest, nominal-start}
use Rattle.sched_history.proofs.placements.PlacedLives.{WasPlaced, table_placed}
use Rattle.map_build.specs.declared.met.Met.{Met}
use Rattle.map_build.specs.Reading.{meets_at}
use Rattle.map_build.proofs.FlowsAfter.{allocation}
use Rattle.map_build.proofs.Reading.{met_by_plan, meets_at-member}
use Rattle.sched_history.proofs.facts.Ranging.{met_after-next}
use Rattle.sched_history.proofs.settling.Heads.{head-unaddressed}

-- a spot of a placed flow, in a frame that starts there, is on time
module _ (c : Config) (conf : IsLawful c) (table : List Placed) (start : ℕ) (aligned : start % c.frame ≡ 0)
    (each : (flow : Placed) → Contains table flow → WasPlaced c start flow.spec flow.placement) where
  -- what is said of a spot
  abbrev IsSpotOnTime : Spot → Type 0
  IsSpotOnTime s = (e : Element) → e.sid ≡ s.sid → e.offset ≡ s.offset → (flow : Placed) × IsOnTime c table start e flow

  flow_on_time : (flow : Placed) → Contains table flow
      → AllByRecursion IsSpotOnTime (spots_of c (start / c.frame) flow)
  flow_on_time flow live =
      let k : ℕ = start / c.frame in
      let was : WasPlaced c start flow.spec flow.placement = each flow live in
      let interval : ℕ = interval_frames c flow.spec in
      let starts : List ℕ = starts_in c flow.spec flow.placement (k % c.cycle) in
      let here = starts-here c (k % c.cycle) flow (λ place. spots_in c place was.table) (in-cycle c k conf)
      was.lawful.starts in
      let lawful : ℕ → Type 0 = IsStartIn c flow (spots_in c (k % c.cycle) was.table) in
      all-map IsSpotOnTime (spot_at c flow) starts
      (all-members (λ at. IsSpotOnTime (spot_at c flow at)) starts (λ at member e sid offset.
      let is = All-contains lawful starts at (All-from_recursion lawful starts here.each) member in
      let nominal : k % interval ≡ phase_of c flow.spec flow.placement =
      sym (place_rest k c.cycle interval (interval_divides c flow.spec was.faultless was.periodic))
      ∙ nominal-start c flow.spec flow.placement (k % c.cycle) at member in (
        flow,
        record {
          live = live;
          own = sym sid;
          nominal = nominal;
          from_reference = reference_past c.frame interval flow.placement.reference was.since start
              (omega (arith, (bounds_of c conf).frame_least)) aligned was.past was.lawful.not_before was.lawful.first
              nominal;
          not_early = omega (arith, is.after_nominal, offset);
          within_jitter = omega (arith, is.within_jitter, offset);
        },
      )))

  -- so is what it is to have there
  due_on_time : (flow : Placed) → Contains table flow → AllByRecursion IsSpotOnTime (due_of c (start / c.frame) flow)
  due_on_time flow live =
      all-due-of c (start / c.frame) IsSpotOnTime flow (λ at rests on e sid offset. on e sid offset)
      (flow_on_time flow live)

  spot_on_time : (s : Spot) (e : Element) → Contains (due_in c (start / c.frame) table) s → e.sid ≡ s.sid
      → e.offset ≡ s.offset
      → (flow : Placed) × IsOnTime c table start e flow
  spot_on_time s e member sid offset =
      let spots : List Spot = due_in c (start / c.frame) table in
      let all = all-flat_map IsSpotOnTime (due_of c (start / c.frame)) table due_on_time in
      All-contains IsSpotOnTime spots s (All-from_recursion IsSpotOnTime spots all) member e sid offset

-- what is said of an element with its bytes in a MAP that starts there
abbrev IsTimely : Config → List Met → List Placed → ℕ → Element × ℕ → Type 0
IsTimely c met table start e = IsPeriodic c met e.0 e.1 → (flow : Placed) × IsOnTime c table start e.0 flow

unaddressed : bad_sid 0 ≡ false → ⊥
unaddressed good = cc

-- pending grants are none, since they lie behind the frame
timely-pending : (c : Config) (met : List Met) (table : List Placed) (start : ℕ) (flows : List LiveFlow) (bs : List ℕ)
    → AllByRecursion (IsTimely c met table start)
    (zip (map (pending_of c) flows) bs)
timely-pending c met table start [] bs = tt
timely-pending c met table start (f ∷ flows) [] = tt
timely-pending c met table start (f ∷ flows) (b ∷ bs) =
    ((λ periodic. absurd (omega (arith, periodic.in_frame))), timely-pending c met table start flows bs)

-- where the opportunities of a plan begin these are met
abbrev AreMetAt : List Met → List Allocation → Type 0
AreMetAt met plan = (a : Allocation) (place : ℕ) → Contains plan a → place_of a.purpose ≡ Some place
    → meets_at met a.offset ≡ true

-- an idle is to no flow, open or not
idle-unaddressed : (opens : Bool) → bad_sid (if opens then broadcast else 0) ≡ true
idle-unaddressed true = refl
idle-unaddressed false = refl

module _ (c : Config) (d : Demand) (met : List Met) (table : List Placed) (same : d.spots ≡ due_in c (d.start / c.frame) table)
    (spots_timely : (s : Spot) (e : Element) → Contains (due_in c (d.start / c.frame) table) s → e.sid ≡ s.sid
    → e.offset ≡ s.offset
    → (flow : Placed) × IsOnTime c table d.start e flow) where
  timely-spot : (s : Spot) (e : Element) → Contains d.spots s → e.sid ≡ s.sid → e.offset ≡ s.offset
      → (flow : Placed) × IsOnTime c table d.start e flow
  timely-spot s e member sid offset =
      spots_timely s e (subst (λ spots. Contains spots s) same member) sid offset

  -- an allocation's element
  timely-element : (before : List Allocation) (offset slots : ℕ) (purpose : Purpose)
      → IsOfClass c d before offset slots purpose
      → ((place : ℕ) → place_of purpose ≡ Some place → meets_at met offset ≡ true)
      → IsTimely c met table d.start (element_of c (allocation offset slots purpose), bytes_in c (allocation offset slots purpose))
  timely-element before offset slots (Poll sid) stands met_there periodic =
      timely-spot (record { sid = sid; size = None; offset = offset; slots = slots })
      (element_of c (allocation offset slots (Poll sid))) stands refl refl
  timely-element before offset slots (UnsolicitedGrant sid size) stands met_there periodic =
      timely-spot (record { sid = sid; size = Some size; offset = offset; slots = slots })
      (element_of c (allocation offset slots (UnsolicitedGrant sid size))) stands refl refl
  timely-element before offset slots (Offer place usage) stands met_there periodic =
      absurd (let is = met_there place refl in let isnt = periodic.unreserved in cc)
  timely-element before offset slots (DataGrant sid bytes) stands met_there periodic =
      absurd (omega (arith, stands.4.allowed.positive, periodic.unasked))
  timely-element before offset slots Idle stands met_there periodic =
      absurd (let good = periodic.to_flow in let bad = idle-unaddressed (is_open c slots) in cc)

  -- the elements of a plan, with timely ones behind
  timely-plan : (before plan : List Allocation) (es : List Element) (bs : List ℕ)
      → EachAfter (Stands c d) before plan → AreMetAt met plan
      → AllByRecursion (IsTimely c met table d.start) (zip es bs) → AllByRecursion (IsTimely c met table d.start)
      (zip (map (element_of c) plan ++ es) (map (bytes_in c) plan ++ bs))
  timely-plan before [] es bs each are timely = timely
  timely-plan before (a ∷ plan) es bs each are timely = (
    timely-element before a.offset a.slots a.purpose each.0.purpose
        (λ place is. are a place (Contains-first a plan) is),
    timely-plan (before ++ a ∷ []) plan es bs each.1 (λ b place has is. are b place (Contains-later a plan b has) is)
        timely,
  )

  -- the elements of the MAP of a plan
  timely-map : (header : Header) (ack : ℕ) (plan : List Allocation) → EachAfter (Stands c d) [] plan
      → AreMetAt met plan → KeepsTimes c table met (replies.Built (map_of c d header ack plan))
  timely-map header ack plan each are =
      let tail : List Element = pending c (flows_after c d.start plan d.flows) in
      let flows : List LiveFlow = flows_after c d.start plan d.flows in
      let asking : List LiveFlow = filter (is_shown c.pending flows) flows in (
        (λ (periodic : IsPeriodic c met (head_for c d.settles) 0). absurd
            (let good = periodic.to_flow in let bad = head-unaddressed c d.settles in cc)),
        timely-plan [] plan (null_element c ∷ tail) (0 ∷ map (λ e. 0) tail) each are (
          (λ periodic. absurd (unaddressed periodic.to_flow)),
          timely-pending c met table d.start asking (map (λ e. 0) tail),
        ),
      )

module _ (c : Config) (conf : IsLawful c) where
  timely_by : (h : List Entry) (call : Call) (reply : Reply) → IsLegal c h → IsStep c h call reply
      → KeepsTimes c (table_of h) (met_after c h reply) reply
  timely_by h call (replies.Built m) legal step =
      let next : IsNextMap c h m = IsNextMap-from_step c h call m step in
      let met : List Met = met_by_plan next.0 in
      subst (λ (met : List Met). KeepsTimes c (table_of h) met (replies.Built m))
      (sym (met_after-next c h m legal next))
      (subst (λ m. KeepsTimes c (table_of h) met (replies.Built m)) (sym next.2)
      (timely-map c (demand_after c h) met (table_of h) refl (spot_on_time c conf (table_of h) (next_after c h)
      (next_after-aligned c conf h legal) (table_placed c h legal)) (header_after c h) (ack_after c h)
      next.0 next.1.each (λ a place has is. meets_at-member next.0 a place has is)))
  timely_by h call reply legal step = tt

  -- every poll and unsolicited grant is on time
  pub on_time : (h : List Entry) → IsLegal c h
      → EachAfter (λ before e. KeepsTimes c (table_of before) (met_after c before e.reply) e.reply) [] h
  on_time = EachAfter-from_legal c (λ before e. KeepsTimes c (table_of before) (met_after c before e.reply) e.reply)
      (λ h e legal step. timely_by h e.call e.reply legal step)
