-- The charges of steady flows of one state leave the same.
use Rattle.std.proofs.Common.{◌≡◌, sym, ap, ◌∙◌, subst, ℕ, List}
use Rattle.minislots.specs.declared.config.Config.{Config}
use Rattle.sched_calls.specs.declared.spec.FlowSpec.{FlowSpec}
use Rattle.sched_calls.specs.declared.spec.TheConstants.{PEAK_BURST}
use Rattle.sched_calls.specs.FlowSpec.{rate_of, burst_of, peak_of, reserved_of, reserved_burst_of}
use Rattle.flow_book.specs.Ceiling.{KeepsCeiling}
use Rattle.flow_book.specs.Choice.{last_slot}
use Rattle.flow_book.specs.Flows.{LiveFlow, Charge, AreMadeBy}
use Rattle.flow_book.specs.FlowState.{level_after}
use Rattle.restart_laws.proofs.Alike.{IsSteadyFlow, AlikeFlow}
use Rattle.restart_laws.proofs.flows.Fields.{spec-alike, slot-alike, sustained-alike, peak-alike, reserved-alike}
use Rattle.restart_laws.proofs.flows.Charges.{AreOfOneLevel}

-- the same of parameters and minislots that are the same
level-of-one : (c : Config) (rate burst : FlowSpec → ℕ) (spec spec' : FlowSpec) (slot slot' : ℕ) (xs ys : List Charge)
    → spec ≡ spec' → slot ≡ slot' → AreMadeBy slot xs → AreMadeBy slot' ys
    → KeepsCeiling c (rate spec) (burst spec) xs → KeepsCeiling c (rate spec') (burst spec') ys
    → level_after c (rate spec) (burst spec) slot xs ≡ level_after c (rate spec') (burst spec') slot' ys
    → AreOfOneLevel c (rate spec) (burst spec) slot xs ys
level-of-one c rate burst spec spec' slot slot' xs ys specs slots made made' kept kept' same = record {
  made_one = made;
  made_other = subst (λ s. AreMadeBy s ys) (sym slots) made';
  kept_one = kept;
  kept_other = subst (λ s. KeepsCeiling c (rate s) (burst s) ys) (sym specs) kept';
  same = same ∙ ap (λ s. level_after c (rate spec') (burst spec') s ys) (sym slots)
      ∙ ap (λ s. level_after c (rate s) (burst s) slot ys) (sym specs);
}

module _ (c : Config) (start : ℕ) (f g : LiveFlow) (one : IsSteadyFlow c start f) (other : IsSteadyFlow c start g)
    (same : AlikeFlow c f g) where
  -- those to the maximum sustained rate
  pub sustained-level : AreOfOneLevel c (rate_of f.spec) (burst_of f.spec) (last_slot f.grants) f.sustained g.sustained
  sustained-level =
      level-of-one c rate_of burst_of f.spec g.spec (last_slot f.grants) (last_slot g.grants) f.sustained g.sustained
      (spec-alike c f g same) (slot-alike c f g same) one.sustained_by other.sustained_by one.sustained other.sustained
      (sustained-alike c f g same)

  -- those to the peak rate
  pub peak-level : AreOfOneLevel c (peak_of f.spec) PEAK_BURST (last_slot f.grants) f.peak g.peak
  peak-level =
      level-of-one c peak_of (λ spec. PEAK_BURST) f.spec g.spec (last_slot f.grants) (last_slot g.grants) f.peak g.peak
      (spec-alike c f g same) (slot-alike c f g same) one.peak_by other.peak_by one.peak other.peak
      (peak-alike c f g same)

  -- those to the reservation
  pub reserved-level : AreOfOneLevel c (reserved_of f.spec) (reserved_burst_of f.spec) (last_slot f.grants) f.reserved
      g.reserved
  reserved-level =
      level-of-one c reserved_of reserved_burst_of f.spec g.spec (last_slot f.grants) (last_slot g.grants) f.reserved
      g.reserved (spec-alike c f g same) (slot-alike c f g same) one.reserved_by other.reserved_by one.reserved
      other.reserved (reserved-alike c f g same)
