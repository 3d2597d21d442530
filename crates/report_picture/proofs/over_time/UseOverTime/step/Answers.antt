-- Where it starts, and its use.
use Rattle.std.proofs.Common.{◌≡◌, ℕ, ap, ◌∙◌}
use Rattle.sched_report.specs.declared.slots.Slots.{Slots}
use Rattle.report_picture.specs.declared.over_time.Step.{Step}
use Rattle.report_picture.proofs.Told.{first-told}
use Rattle.report_picture.proofs.over_time.UseOverTime.step.Goals as goal

-- a step by its parts
step_of : ℕ → ℕ → Slots → Step
step_of first last slots = record { first = first; last = last; slots = slots }

same_step : (first other last behind : ℕ) (slots uses : Slots) → first ≡ other → last ≡ behind → slots ≡ uses
    → step_of first last slots ≡ step_of other behind uses
same_step first other last behind slots uses begins ends is =
    ap (λ (n : ℕ). step_of n last slots) begins
    ∙ ap (λ (n : ℕ). step_of other n slots) ends
    ∙ ap (step_of other behind) is

pub returns : goal.returns
unfolding step_of
returns c = λ k fs is.
    same_step _ _ _ _ _ _ (first-told k c.args.self.now fs is c.args.i _ c.requires.4) (c.last.ensures k fs is)
    (c.slots.ensures k fs is)
