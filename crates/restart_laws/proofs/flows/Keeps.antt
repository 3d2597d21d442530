-- Steady flows of one state keep their rates with the same grants.
use Rattle.std.proofs.Common.{subst, ◌∙◌, ℕ}
use Rattle.minislots.specs.declared.config.Config.{Config}
use Rattle.sched_calls.specs.declared.spec.TheConstants.{PEAK_BURST}
use Rattle.sched_calls.specs.FlowSpec.{rate_of, burst_of, peak_of, reserved_of, reserved_burst_of}
use Rattle.flow_book.specs.Ceiling.{KeepsCeiling}
use Rattle.flow_book.specs.Choice.{last_slot, KeepsWith}
use Rattle.flow_book.specs.Flows.{LiveFlow, and_grant}
use Rattle.restart_laws.proofs.Alike.{IsSteadyFlow, AlikeFlow}
use Rattle.restart_laws.proofs.flows.Fields.{spec-alike}
use Rattle.restart_laws.proofs.flows.Charges.{keeps-alike}
use Rattle.restart_laws.proofs.flows.Levels.{sustained-level, peak-level, reserved-level}
use Rattle.restart_laws.proofs.flows.Under.{under-alike}

module _ (c : Config) (start bytes : ℕ) (f g : LiveFlow) (one : IsSteadyFlow c start f)
    (other : IsSteadyFlow c start g) (same : AlikeFlow c f g) where
  -- where the one keeps its rates with a grant the other does
  pub keeps-with-alike : KeepsWith c f start bytes → KeepsWith c g start bytes
  keeps-with-alike keeps = record {
    sustained = subst (λ s. KeepsCeiling c (rate_of s) (burst_of s) (and_grant g.sustained start bytes))
        (spec-alike c f g same) (keeps-alike c (rate_of f.spec) (burst_of f.spec) (last_slot f.grants) start one.last
        f.sustained g.sustained (sustained-level c start f g one other same) bytes keeps.sustained);
    peak = subst (λ s. KeepsCeiling c (peak_of s) PEAK_BURST (and_grant g.peak start bytes)) (spec-alike c f g same)
        (keeps-alike c (peak_of f.spec) PEAK_BURST (last_slot f.grants) start one.last f.peak g.peak
        (peak-level c start f g one other same) bytes keeps.peak);
    reserved = λ under.
        subst (λ s. KeepsCeiling c (reserved_of s) (reserved_burst_of s) (and_grant g.reserved start bytes))
        (spec-alike c f g same) (keeps-alike c (reserved_of f.spec) (reserved_burst_of f.spec) (last_slot f.grants)
        start one.last f.reserved g.reserved (reserved-level c start f g one other same) bytes
        (keeps.reserved (under-alike c start f g one other same ∙ under)));
  }
