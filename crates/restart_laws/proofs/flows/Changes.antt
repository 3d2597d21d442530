-- Steady flows of one state are steady and of one state after a request, with other parameters, and as they begin.
use Rattle.std.proofs.Common.{◌≡◌, refl, sym, ap, ap₂, ◌∙◌, subst₂, ℕ, ◌+◌, ◌==◌, ◌&&◌, Bool, true, false, cond}
use Rattle.std.proofs.Common.{List, [], Option, None, arith}
use Rattle.std.proofs.lemmas.Bool.Decides.{nat_tests, Decides-eqb}
use Rattle.minislots.specs.declared.config.Config.{Config}
use Rattle.sched_calls.specs.declared.spec.FlowSpec.{FlowSpec}
use Rattle.sched_calls.specs.declared.spec.TheConstants.{PEAK_BURST}
use Rattle.sched_calls.specs.declared.state.BatchState.{BatchState}
use Rattle.sched_calls.specs.declared.state.FlowState.{FlowState}
use Rattle.sched_calls.specs.FlowSpec.{rate_of, burst_of, peak_of, reserved_of, reserved_burst_of}
use Rattle.flow_book.specs.Batches.{with_request}
use Rattle.flow_book.specs.Book.{with_asked, with_replaced, with_spec, new_flow, has_ceiling_of, has_peak_of}
use Rattle.flow_book.specs.Book.{has_reserve_of}
use Rattle.flow_book.specs.Ceiling.{KeepsCeiling}
use Rattle.flow_book.specs.Choice.{last_slot}
use Rattle.flow_book.specs.declared.batches.Batches.{Batches}
use Rattle.flow_book.specs.Flows.{LiveFlow, Charge, AreMadeBy, granted}
use Rattle.flow_book.specs.FlowState.{level_after, batch_state}
use Rattle.flow_book.proofs.Reservation.{both-hold}
use Rattle.flow_book.specs.Carried.{carried_batches}
use Rattle.restart_laws.proofs.Alike.{IsSteadyFlow, AlikeFlow}
use Rattle.restart_laws.proofs.flows.Batches.{request-carried}
use Rattle.restart_laws.proofs.flows.Fields.{alike-of, sid-alike, granted-alike, last-alike, batches-alike}
use Rattle.restart_laws.proofs.flows.Fields.{sustained-alike, peak-alike, reserved-alike}
use Rattle.restart_laws.proofs.flows.Fields.{asked-alike as as-much-asked, spec-alike as of-one-spec}

-- a flow just admitted is steady
pub new-steady : (c : Config) (slot sid : ℕ) (spec : FlowSpec) → IsSteadyFlow c slot (new_flow sid spec)
new-steady c slot sid spec = record {
  started = tt;
  last = omega arith;
  sustained_by = tt;
  peak_by = tt;
  reserved_by = tt;
  sustained = λ positive i j le lt. absurd (omega arith);
  peak = λ positive i j le lt. absurd (omega arith);
  reserved = λ positive i j le lt. absurd (omega arith);
  within = omega arith;
  unspent = λ none. (refl, refl, refl);
}

-- a request more leaves a flow steady
pub asked-steady : (c : Config) (slot bytes heard : ℕ) (f : LiveFlow) → IsSteadyFlow c slot f
    → IsSteadyFlow c slot (with_asked bytes heard f)
asked-steady c slot bytes heard f is = record {
  started = is.started;
  last = is.last;
  sustained_by = is.sustained_by;
  peak_by = is.peak_by;
  reserved_by = is.reserved_by;
  sustained = is.sustained;
  peak = is.peak;
  reserved = is.reserved;
  within = omega (arith, is.within);
  unspent = is.unspent;
}

-- and so does one in the place of what was outstanding
pub replaced-steady : (c : Config) (slot bytes heard : ℕ) (f : LiveFlow) → IsSteadyFlow c slot f
    → IsSteadyFlow c slot (with_replaced bytes heard f)
replaced-steady c slot bytes heard f is = record {
  started = is.started;
  last = is.last;
  sustained_by = is.sustained_by;
  peak_by = is.peak_by;
  reserved_by = is.reserved_by;
  sustained = is.sustained;
  peak = is.peak;
  reserved = is.reserved;
  within = omega arith;
  unspent = is.unspent;
}

-- the state of batches with a request more
abbrev state_more : ℕ → ℕ → Batches → ℕ → ℕ → Option BatchState
state_more bytes heard b asked given = batch_state (with_request b asked given bytes heard) (asked + bytes) given

-- flows of one state are of one state after a request more
pub asked-alike : (c : Config) (bytes heard : ℕ) (f g : LiveFlow) → AlikeFlow c f g
    → AlikeFlow c (with_asked bytes heard f) (with_asked bytes heard g)
asked-alike c bytes heard f g same =
    alike-of c (with_asked bytes heard f) (with_asked bytes heard g) (sid-alike c f g same) (of-one-spec c f g same)
    (ap (λ n. n + bytes) (as-much-asked c f g same)) (granted-alike c f g same) (last-alike c f g same)
    (sustained-alike c f g same) (peak-alike c f g same) (reserved-alike c f g same)
    (sym (carried f)
    ∙ ap (λ (s : FlowState). state_more bytes heard (carried_batches s.batches) s.asked s.granted) same
    ∙ carried g)
  where
    carried : (h : LiveFlow)
        → state_more bytes heard (carried_batches (batch_state h.batches h.asked (granted h))) h.asked (granted h)
        ≡ state_more bytes heard h.batches h.asked (granted h)
    carried h =
        ap (λ b. batch_state b (h.asked + bytes) (granted h))
        (request-carried h.batches h.asked (granted h) bytes heard)

-- a flow that asked for no more than it was granted
abbrev content : LiveFlow → LiveFlow
content f = record f { asked = granted f }

no-batches : (f : LiveFlow) → batch_state f.batches (granted f) (granted f) ≡ None
no-batches f = let all : (granted f == granted f) ≡ true = grind (arith, nat_tests) in rw all refl

-- and after one in the place of what was outstanding
pub replaced-alike : (c : Config) (bytes heard : ℕ) (f g : LiveFlow) → AlikeFlow c f g
    → AlikeFlow c (with_replaced bytes heard f) (with_replaced bytes heard g)
replaced-alike c bytes heard f g same =
    asked-alike c bytes heard (content f) (content g)
    (alike-of c (content f) (content g) (sid-alike c f g same) (of-one-spec c f g same) (granted-alike c f g same)
    (granted-alike c f g same) (last-alike c f g same) (sustained-alike c f g same) (peak-alike c f g same)
    (reserved-alike c f g same) (no-batches f ∙ sym (no-batches g)))

-- charges of which a change of parameters leaves all or none
made-left : (b : Bool) (slot : ℕ) (charges : List Charge) → AreMadeBy slot charges → AreMadeBy slot (cond b charges [])
made-left true slot charges made = made
made-left false slot charges made = tt

none-left : (b : Bool) (charges : List Charge) → charges ≡ [] → cond b charges [] ≡ []
none-left true charges none = none
none-left false charges none = refl

module _ (c : Config) (rate burst : ℕ) where
  kept-left : (b : Bool) (old old-burst : ℕ) (charges : List Charge)
      → (b ≡ true → (old ≡ rate) × (old-burst ≡ burst)) → KeepsCeiling c old old-burst charges
      → KeepsCeiling c rate burst (cond b charges [])
  kept-left true old old-burst charges is kept =
      subst₂ (λ r n. KeepsCeiling c r n charges) (is refl).0 (is refl).1 kept
  kept-left false old old-burst charges is kept = λ positive i j le lt. absurd (omega arith)

  level-left : (b b' : Bool) (old old-burst old' old-burst' slot slot' : ℕ) (xs ys : List Charge) → b ≡ b'
      → (b ≡ true → (old ≡ rate) × (old-burst ≡ burst)) → (b' ≡ true → (old' ≡ rate) × (old-burst' ≡ burst))
      → level_after c old old-burst slot xs ≡ level_after c old' old-burst' slot' ys
      → level_after c rate burst slot (cond b xs []) ≡ level_after c rate burst slot' (cond b' ys [])
  level-left true true old old-burst old' old-burst' slot slot' xs ys both one other same =
      sym (ap₂ (λ r n. level_after c r n slot xs) (one refl).0 (one refl).1) ∙ same
      ∙ ap₂ (λ r n. level_after c r n slot' ys) (other refl).0 (other refl).1
  level-left false false old old-burst old' old-burst' slot slot' xs ys both one other same = refl
  level-left true false old old-burst old' old-burst' slot slot' xs ys both one other same = absurd (cc)
  level-left false true old old-burst old' old-burst' slot slot' xs ys both one other same = absurd (cc)

both-equal : (m n m' n' : ℕ) → (m == m' && n == n') ≡ true → (m ≡ m') × (n ≡ n')
both-equal m n m' n' is =
    let both = both-hold (m == m') (n == n') is in ((Decides-eqb m m').0 both.0, (Decides-eqb n n').0 both.1)

module _ (spec spec' : FlowSpec) where
  ceilings-same : has_ceiling_of spec spec' ≡ true → (rate_of spec ≡ rate_of spec') × (burst_of spec ≡ burst_of spec')
  ceilings-same is = both-equal (rate_of spec) (burst_of spec) (rate_of spec') (burst_of spec') is

  peaks-same : has_peak_of spec spec' ≡ true → (peak_of spec ≡ peak_of spec') × (PEAK_BURST ≡ PEAK_BURST)
  peaks-same is = ((Decides-eqb (peak_of spec) (peak_of spec')).0 is, refl)

  reserves-same : has_reserve_of spec spec' ≡ true
      → (reserved_of spec ≡ reserved_of spec') × (reserved_burst_of spec ≡ reserved_burst_of spec')
  reserves-same is =
      both-equal (reserved_of spec) (reserved_burst_of spec) (reserved_of spec') (reserved_burst_of spec') is

module _ (c : Config) (spec : FlowSpec) where
  -- other parameters leave a flow steady
  pub spec-steady : (slot : ℕ) (f : LiveFlow) → IsSteadyFlow c slot f → IsSteadyFlow c slot (with_spec spec f)
  spec-steady slot f is =
      let ceiling = has_ceiling_of f.spec spec in
      let peak = has_peak_of f.spec spec in
      let reserve = has_reserve_of f.spec spec in
      let last = last_slot f.grants in
      record {
        started = is.started;
        last = is.last;
        sustained_by = made-left ceiling last f.sustained is.sustained_by;
        peak_by = made-left peak last f.peak is.peak_by;
        reserved_by = made-left reserve last f.reserved is.reserved_by;
        sustained = kept-left c (rate_of spec) (burst_of spec) ceiling (rate_of f.spec) (burst_of f.spec) f.sustained
            (ceilings-same f.spec spec) is.sustained;
        peak = kept-left c (peak_of spec) PEAK_BURST peak (peak_of f.spec) PEAK_BURST f.peak (peaks-same f.spec spec)
            is.peak;
        reserved = kept-left c (reserved_of spec) (reserved_burst_of spec) reserve (reserved_of f.spec)
            (reserved_burst_of f.spec) f.reserved (reserves-same f.spec spec) is.reserved;
        within = is.within;
        unspent = λ none.
            let all = is.unspent none in
            (none-left ceiling f.sustained all.0, none-left peak f.peak all.1, none-left reserve f.reserved all.2);
      }

  -- and flows of one state of one state
  pub spec-alike : (f g : LiveFlow) → AlikeFlow c f g → AlikeFlow c (with_spec spec f) (with_spec spec g)
  spec-alike f g same =
      let specs = of-one-spec c f g same in
      let here = last_slot f.grants in
      let there = last_slot g.grants in
      alike-of c (with_spec spec f) (with_spec spec g) (sid-alike c f g same) refl (as-much-asked c f g same)
      (granted-alike c f g same) (last-alike c f g same)
      (level-left c (rate_of spec) (burst_of spec) (has_ceiling_of f.spec spec) (has_ceiling_of g.spec spec)
      (rate_of f.spec) (burst_of f.spec) (rate_of g.spec) (burst_of g.spec) here there f.sustained g.sustained
      (ap (λ (s : FlowSpec). has_ceiling_of s spec) specs) (ceilings-same f.spec spec) (ceilings-same g.spec spec)
      (sustained-alike c f g same))
      (level-left c (peak_of spec) PEAK_BURST (has_peak_of f.spec spec) (has_peak_of g.spec spec) (peak_of f.spec)
      PEAK_BURST (peak_of g.spec) PEAK_BURST here there f.peak g.peak (ap (λ (s : FlowSpec). has_peak_of s spec) specs)
      (peaks-same f.spec spec) (peaks-same g.spec spec) (peak-alike c f g same))
      (level-left c (reserved_of spec) (reserved_burst_of spec) (has_reserve_of f.spec spec)
      (has_reserve_of g.spec spec) (reserved_of f.spec) (reserved_burst_of f.spec) (reserved_of g.spec)
      (reserved_burst_of g.spec) here there f.reserved g.reserved (ap (λ (s : FlowSpec). has_reserve_of s spec) specs)
      (reserves-same f.spec spec) (reserves-same g.spec spec) (reserved-alike c f g same))
      (batches-alike c f g same)
