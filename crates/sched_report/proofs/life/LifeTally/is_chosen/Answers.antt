-- By its parameters.
use Rattle.std.proofs.Common.{Option, sym, ap, ◌∙◌, ℕ}
use Rattle.sched_report.specs.Lives.{spec_of}
use Rattle.sched_report.specs.Ranks.{is_of_rank, is_chosen}
use Rattle.sched_report.proofs.life.LifeTally.is_chosen.Goals as goal

pub returns-in-Some : goal.returns-in-Some
returns-in-Some c = λ k life is.
    c.is_of_rank.ensures ∙ ap (is_of_rank c.in-Some.rank) is.spec
    ∙ sym (ap (λ (o : Option ℕ). is_chosen o (spec_of life)) c.in-Some.is)

pub returns-in-None : goal.returns-in-None
returns-in-None c = λ k life is. sym (ap (λ (o : Option ℕ). is_chosen o (spec_of life)) c.in-None.is)
