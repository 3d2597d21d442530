-- The flow that a flow's state stands for is steady and of that state.
use Rattle.std.proofs.Common.{◌≡◌, refl, sym, ap, ◌∙◌, ℕ, zero, suc, ◌≤◌, ◌==◌, true, false}
use Rattle.std.proofs.Common.{List, [], ◌∷◌, Option, None, Some, unwrap_or, inl, inr, arith}
use Rattle.std.specs.Option.{IfSome}
use Rattle.std.proofs.lemmas.Bool.{cases_eq}
use Rattle.std.proofs.lemmas.Bool.Decides.{nat_tests}
use Rattle.minislots.specs.declared.config.Config.{Config}
use Rattle.sched_calls.specs.declared.spec.TheConstants.{PEAK_BURST}
use Rattle.sched_calls.specs.FlowSpec.{rate_of, burst_of, peak_of, reserved_of, reserved_burst_of}
use Rattle.flow_book.specs.declared.flow.Grant.{Grant}
use Rattle.flow_book.specs.Ceiling.{KeepsCeiling}
use Rattle.flow_book.specs.Choice.{last_start, last_slot}
use Rattle.flow_book.specs.Flows.{LiveFlow, Charge, AreMadeBy, HaveStartedBy, bytes_of, granted}
use Rattle.flow_book.specs.FlowState.{level_after, batch_state, flow_state}
use Rattle.flow_book.proofs.Sums.{last-started}
use Rattle.periodic.specs.Placement.{Placed}
use Rattle.sched_history.specs.ChannelState.{flow_state_in}
use Rattle.flow_book.specs.Carried.{carried_grants, carried_charges, carried_batches, carried_flow}
use Rattle.restart_laws.proofs.Alike.{IsSteadyFlow, AlikeFlow}
use Rattle.restart_laws.proofs.flows.Batches.{state-carried}
use Rattle.restart_laws.proofs.flows.Charges.{left-small}
use Rattle.restart_laws.proofs.flows.Fields.{alike-of}

-- where no grant is the last there is none
no-grant : (grants : List Grant) → last_start grants ≡ None → grants ≡ []
no-grant [] none = refl
no-grant (g ∷ []) none = absurd (cc)
no-grant (g ∷ h ∷ grants) none = let rest = no-grant (h ∷ grants) none in absurd (cc)

module _ (given : ℕ) where
  -- the carried grant starts where the last did
  last-carried : (last : Option ℕ) → last_start (carried_grants last given) ≡ last
  last-carried None = refl
  last-carried (Some start) = refl

  -- and has all bytes
  given-carried : (last : Option ℕ) → (last ≡ None → given ≡ 0) → bytes_of (carried_grants last given) ≡ given
  given-carried None none = sym (none refl)
  given-carried (Some start) none = omega arith

  started-carried : (slot : ℕ) (last : Option ℕ) → IfSome last (λ m. m ≤ slot)
      → HaveStartedBy slot (carried_grants last given)
  started-carried slot None by = tt
  started-carried slot (Some start) by = (by, tt)

  -- what is charged for it is made there
  made-carried : (last : Option ℕ) (burst : ℕ) (level : Option ℕ)
      → AreMadeBy (last_slot (carried_grants last given)) (carried_charges last burst level)
  made-carried None burst level = tt
  made-carried (Some start) burst None = tt
  made-carried (Some start) burst (Some level) = (omega arith, tt)

  unspent-carried : (last : Option ℕ) (burst : ℕ) (level : Option ℕ) → carried_grants last given ≡ []
      → carried_charges last burst level ≡ []
  unspent-carried None burst level none = refl
  unspent-carried (Some start) burst level none = absurd (cc)

-- and keeps a rate with its burst
kept-carried : (c : Config) (rate : ℕ) (last : Option ℕ) (burst : ℕ) (level : Option ℕ)
    → KeepsCeiling c rate burst (carried_charges last burst level)
kept-carried c rate None burst level positive i j le lt = absurd (omega arith)
kept-carried c rate (Some start) burst None positive i j le lt = absurd (omega arith)
kept-carried c rate (Some start) burst (Some level) positive zero zero le lt = omega arith
kept-carried c rate (Some start) burst (Some level) positive (suc i) zero le lt = absurd (omega arith)
kept-carried c rate (Some start) burst (Some level) positive i (suc j) le lt = absurd (omega arith)

-- behind it the level is what it was
level-carried : (c : Config) (rate burst given : ℕ) (charges : List Charge) (last : Option ℕ)
    → (last ≡ None → charges ≡ []) → AreMadeBy (unwrap_or last 0) charges → KeepsCeiling c rate burst charges
    → level_after c rate burst (unwrap_or last 0) charges
    ≡ level_after c rate burst (last_slot (carried_grants last given))
    (carried_charges last burst (level_after c rate burst (unwrap_or last 0) charges))
level-carried c rate burst given charges None none made kept = rw (none refl) refl
level-carried c rate burst given charges (Some start) none made kept = elim (cases_eq rate 0) [
  | inl zero' ↦ (let free : (rate == 0) ≡ true = grind (arith, nat_tests) in rw free refl)
  | inr some ↦ (
      let limited : (rate == 0) ≡ false = grind (arith, nat_tests) in
      let few = left-small c rate burst start charges (omega arith) made kept in
      rw limited (ap Some (omega arith)))
]

module _ (c : Config) (slot : ℕ) (placed : List Placed) (f : LiveFlow) (is : IsSteadyFlow c slot f) where
  -- the flow that the state stands for
  abbrev left : LiveFlow
  left = carried_flow (flow_state_in c placed f)

  -- the levels that the state tells
  abbrev left_sustained : Option ℕ
  left_sustained = (flow_state c f).sustained

  abbrev left_peak : Option ℕ
  left_peak = (flow_state c f).peak

  abbrev left_reserved : Option ℕ
  left_reserved = (flow_state c f).reserved

  no-last : last_start f.grants ≡ None → f.grants ≡ []
  no-last = no-grant f.grants

  all-given : granted left ≡ granted f
  all-given = given-carried (granted f) (last_start f.grants) (λ none. ap bytes_of (no-last none))

  -- it is steady
  pub carried-steady : IsSteadyFlow c slot left
  carried-steady =
      let last = last_start f.grants in
      let given = granted f in
      record {
        started = started-carried given slot last (last-started slot f.grants is.started);
        last = rw (last-carried given last) is.last;
        sustained_by = made-carried given last (burst_of f.spec) left_sustained;
        peak_by = made-carried given last PEAK_BURST left_peak;
        reserved_by = made-carried given last (reserved_burst_of f.spec) left_reserved;
        sustained = kept-carried c (rate_of f.spec) last (burst_of f.spec) left_sustained;
        peak = kept-carried c (peak_of f.spec) last PEAK_BURST left_peak;
        reserved = kept-carried c (reserved_of f.spec) last (reserved_burst_of f.spec) left_reserved;
        within = omega (arith, all-given, is.within);
        unspent = λ none. (
          unspent-carried given last (burst_of f.spec) left_sustained none,
          unspent-carried given last PEAK_BURST left_peak none,
          unspent-carried given last (reserved_burst_of f.spec) left_reserved none,
        );
      }

  -- and of the state
  pub carried-alike : AlikeFlow c f left
  carried-alike =
      let last = last_start f.grants in
      let given = granted f in
      alike-of c f left refl refl refl (sym all-given) (sym (last-carried given last))
      (level-carried c (rate_of f.spec) (burst_of f.spec) given f.sustained last (λ none. (is.unspent (no-last none)).0)
      is.sustained_by is.sustained)
      (level-carried c (peak_of f.spec) PEAK_BURST given f.peak last (λ none. (is.unspent (no-last none)).1) is.peak_by
      is.peak)
      (level-carried c (reserved_of f.spec) (reserved_burst_of f.spec) given f.reserved last
      (λ none. (is.unspent (no-last none)).2) is.reserved_by is.reserved)
      (sym (state-carried f.batches f.asked given given (omega arith) is.within)
      ∙ ap (batch_state (carried_batches (batch_state f.batches f.asked given)) f.asked) (sym all-given))
