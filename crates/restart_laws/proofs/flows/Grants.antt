-- Steady flows of one state are steady and of one state after a grant, and steady at a later minislot.
use Rattle.std.proofs.Common.{◌≡◌, refl, sym, ap, ◌∙◌, subst, ℕ, ◌+◌, ◌≤◌, Bool, true, false, cond}
use Rattle.std.proofs.Common.{List, [], ◌∷◌, ◌++◌, unwrap_or, arith}
use Rattle.minislots.specs.declared.config.Config.{Config}
use Rattle.sched_calls.specs.declared.spec.FlowSpec.{FlowSpec}
use Rattle.sched_calls.specs.declared.spec.TheConstants.{PEAK_BURST}
use Rattle.sched_calls.specs.declared.state.FlowState.{FlowState}
use Rattle.sched_calls.specs.FlowSpec.{rate_of, burst_of, peak_of, reserved_of, reserved_burst_of}
use Rattle.flow_book.specs.declared.flow.Grant.{Grant}
use Rattle.flow_book.specs.Ceiling.{KeepsCeiling}
use Rattle.flow_book.specs.Choice.{last_slot, KeepsWith}
use Rattle.flow_book.specs.Flows.{LiveFlow, Charge, charge_of, and_grant, AreMadeBy, granted, outstanding}
use Rattle.flow_book.specs.FlowState.{level_after, batch_state}
use Rattle.flow_book.specs.Reserved.{is_under, with_grant}
use Rattle.flow_book.proofs.Started.{started-later, started-push, made-push}
use Rattle.flow_book.proofs.Sums.{last-more, bytes-added}
use Rattle.flow_book.specs.Carried.{carried_batches}
use Rattle.restart_laws.proofs.Alike.{IsSteadyFlow, AlikeFlow}
use Rattle.restart_laws.proofs.flows.Fields.{alike-of, sid-alike, spec-alike, asked-alike, granted-alike}
use Rattle.restart_laws.proofs.flows.Fields.{outstanding-alike}
use Rattle.restart_laws.proofs.flows.Batches.{state-carried}
use Rattle.restart_laws.proofs.flows.Charges.{made-later, still-alike, level-alike}
use Rattle.restart_laws.proofs.flows.Levels.{sustained-level, peak-level, reserved-level}
use Rattle.restart_laws.proofs.flows.Under.{under-alike}

-- what is steady at a minislot is at a later one
pub later-steady : (c : Config) (slot later : ℕ) (f : LiveFlow) → slot ≤ later → IsSteadyFlow c slot f
    → IsSteadyFlow c later f
later-steady c slot later f le is = record {
  started = started-later slot later f.grants le is.started;
  last = omega (arith, is.last);
  sustained_by = is.sustained_by;
  peak_by = is.peak_by;
  reserved_by = is.reserved_by;
  sustained = is.sustained;
  peak = is.peak;
  reserved = is.reserved;
  within = is.within;
  unspent = is.unspent;
}

-- a grant more is the last
last-slot : (grants : List Grant) (g : Grant) → last_slot (grants ++ g ∷ []) ≡ g.start
last-slot grants g = ap (λ o. unwrap_or o 0) (last-more grants g)

some-grant : {A : Type 0} (grants : List Grant) (g : Grant) → grants ++ g ∷ [] ≡ [] → A
some-grant [] g is = absurd (cc)
some-grant (h ∷ grants) g is = absurd (cc)

module _ (c : Config) (start bytes : ℕ) where
  abbrev one_grant : Grant
  one_grant = record { start = start; bytes = bytes }

  -- charges with one more, where it is charged
  made-with : (under : Bool) (slot : ℕ) (charges : List Charge) → slot ≤ start → AreMadeBy slot charges
      → AreMadeBy start (cond under (and_grant charges start bytes) charges)
  made-with true slot charges le made =
      made-push start charges (charge_of one_grant) (made-later slot start charges le made) (omega arith)
  made-with false slot charges le made = made-later slot start charges le made

  kept-with : (rate burst : ℕ) (under : Bool) (charges : List Charge) → KeepsCeiling c rate burst charges
      → (under ≡ true → KeepsCeiling c rate burst (and_grant charges start bytes))
      → KeepsCeiling c rate burst (cond under (and_grant charges start bytes) charges)
  kept-with rate burst true charges kept more = more refl
  kept-with rate burst false charges kept more = kept

  -- a grant that keeps the rates leaves a flow steady where it asked for the bytes
  pub grant-steady : (f : LiveFlow) → IsSteadyFlow c start f → KeepsWith c f start bytes → bytes ≤ outstanding f
      → IsSteadyFlow c start (with_grant c one_grant f)
  grant-steady f is keeps few =
      let now : start ≡ last_slot (f.grants ++ one_grant ∷ []) = sym (last-slot f.grants one_grant) in
      record {
        started = started-push start f.grants one_grant is.started (omega arith);
        last = omega (arith, last-slot f.grants one_grant);
        sustained_by = subst (λ slot. AreMadeBy slot (and_grant f.sustained start bytes)) now
            (made-with true (last_slot f.grants) f.sustained is.last is.sustained_by);
        peak_by = subst (λ slot. AreMadeBy slot (and_grant f.peak start bytes)) now
            (made-with true (last_slot f.grants) f.peak is.last is.peak_by);
        reserved_by = subst (λ slot. AreMadeBy slot (with_grant c one_grant f).reserved) now
            (made-with (is_under c start f) (last_slot f.grants) f.reserved is.last is.reserved_by);
        sustained = keeps.sustained;
        peak = keeps.peak;
        reserved = kept-with (reserved_of f.spec) (reserved_burst_of f.spec) (is_under c start f) f.reserved is.reserved
            keeps.reserved;
        within = omega (arith, bytes-added f.grants start bytes, is.within);
        unspent = λ none. some-grant f.grants one_grant none;
      }

  -- levels of grants that start at one minislot are those there
  at-slot : (rate burst : FlowSpec → ℕ) (spec spec' : FlowSpec) (slot slot' : ℕ) (xs ys : List Charge) → spec ≡ spec'
      → start ≡ slot → start ≡ slot' → level_after c (rate spec) (burst spec) start xs
      ≡ level_after c (rate spec) (burst spec) start ys
      → level_after c (rate spec) (burst spec) slot xs ≡ level_after c (rate spec') (burst spec') slot' ys
  at-slot rate burst spec spec' slot slot' xs ys specs here there same =
      sym (ap (λ s. level_after c (rate spec) (burst spec) s xs) here) ∙ same
      ∙ ap (λ s. level_after c (rate spec) (burst spec) s ys) there
      ∙ ap (λ s. level_after c (rate s) (burst s) slot' ys) specs

  module _ (f g : LiveFlow) (one : IsSteadyFlow c start f) (other : IsSteadyFlow c start g)
      (same : AlikeFlow c f g) where
    -- of a reservation
    reserved-with : (under under' : Bool) → under ≡ under'
        → (under ≡ true → KeepsCeiling c (reserved_of f.spec) (reserved_burst_of f.spec)
        (and_grant f.reserved start bytes))
        → level_after c (reserved_of f.spec) (reserved_burst_of f.spec) start
        (cond under (and_grant f.reserved start bytes) f.reserved)
        ≡ level_after c (reserved_of f.spec) (reserved_burst_of f.spec) start
        (cond under' (and_grant g.reserved start bytes) g.reserved)
    reserved-with true true is keeps =
        level-alike c (reserved_of f.spec) (reserved_burst_of f.spec) (last_slot f.grants) start one.last f.reserved
        g.reserved (reserved-level c start f g one other same) bytes (keeps refl)
    reserved-with false false is keeps =
        still-alike c (reserved_of f.spec) (reserved_burst_of f.spec) (last_slot f.grants) start one.last f.reserved
        g.reserved (reserved-level c start f g one other same)
    reserved-with true false is keeps = absurd (cc)
    reserved-with false true is keeps = absurd (cc)

    -- they are of one state after a grant that keeps their rates
    pub grant-alike : KeepsWith c f start bytes → bytes ≤ outstanding f
        → AlikeFlow c (with_grant c one_grant f) (with_grant c one_grant g)
    grant-alike keeps few =
        let here = sym (last-slot f.grants one_grant) in
        let there = sym (last-slot g.grants one_grant) in
        let specs = spec-alike c f g same in
        alike-of c (with_grant c one_grant f) (with_grant c one_grant g) (sid-alike c f g same) specs
        (asked-alike c f g same)
        (bytes-added f.grants start bytes ∙ ap (λ n. n + bytes) (granted-alike c f g same)
        ∙ sym (bytes-added g.grants start bytes))
        (last-more f.grants one_grant ∙ sym (last-more g.grants one_grant))
        (at-slot rate_of burst_of f.spec g.spec (last_slot (with_grant c one_grant f).grants)
        (last_slot (with_grant c one_grant g).grants) (and_grant f.sustained start bytes)
        (and_grant g.sustained start bytes) specs here there (level-alike c (rate_of f.spec) (burst_of f.spec)
        (last_slot f.grants) start one.last f.sustained g.sustained (sustained-level c start f g one other same) bytes
        keeps.sustained))
        (at-slot peak_of (λ spec. PEAK_BURST) f.spec g.spec (last_slot (with_grant c one_grant f).grants)
        (last_slot (with_grant c one_grant g).grants) (and_grant f.peak start bytes) (and_grant g.peak start bytes)
        specs here there (level-alike c (peak_of f.spec) PEAK_BURST (last_slot f.grants) start one.last f.peak g.peak
        (peak-level c start f g one other same) bytes keeps.peak))
        (at-slot reserved_of reserved_burst_of f.spec g.spec (last_slot (with_grant c one_grant f).grants)
        (last_slot (with_grant c one_grant g).grants) (with_grant c one_grant f).reserved
        (with_grant c one_grant g).reserved specs here there (reserved-with (is_under c start f) (is_under c start g)
        (under-alike c start f g one other same) keeps.reserved))
        batches
      where
        batches : batch_state f.batches f.asked (granted (with_grant c one_grant f))
            ≡ batch_state g.batches g.asked (granted (with_grant c one_grant g))
        batches =
            let more : granted f + bytes ≤ f.asked = omega (arith, one.within) in
            let also = rw (outstanding-alike c f g same) at few in
            let more' : granted g + bytes ≤ g.asked = omega (arith, other.within) in
            ap (batch_state f.batches f.asked) (bytes-added f.grants start bytes)
            ∙ sym (state-carried f.batches f.asked (granted f) (granted f + bytes) (omega arith) more)
            ∙ ap (λ (s : FlowState). batch_state (carried_batches s.batches) s.asked (s.granted + bytes)) same
            ∙ state-carried g.batches g.asked (granted g) (granted g + bytes) (omega arith) more'
            ∙ sym (ap (batch_state g.batches g.asked) (bytes-added g.grants start bytes))
