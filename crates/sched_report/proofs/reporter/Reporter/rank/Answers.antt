-- The numbers are those of the lives of the rank.
use Rattle.std.proofs.Common.{List, sym, subst}
use Rattle.sched_report.specs.declared.life.LifeTally.{LifeTally}
use Rattle.sched_report.specs.Lives.{lives_in}
use Rattle.sched_report.specs.Window.{Window, lives_told}
use Rattle.sched_report.specs.Ranks.{lives_of_rank, AreRankNumbers}
use Rattle.sched_report.specs.ToldLives.{AreLives}
use Rattle.sched_report.proofs.reporter.Reporter.rank.Goals as goal

pub numbers_of-requires : goal.numbers_of-requires
numbers_of-requires c =
    let t = c.self.inside.tally in
    let ls = lives_in t.passed c.self.inside.auditor.history in (
      t.config,
      ls,
      subst (λ (ts : List LifeTally). AreLives t.config ts ls) (sym c.deref.ensures.value)
          c.self.invariant.tally.lives,
    )

pub returns : goal.returns
returns c =
    let t = c.self.inside.tally in
    let ls = lives_in t.passed c.self.inside.auditor.history in
    subst (λ (w : Window). AreRankNumbers w.config c.numbers_of.result (lives_of_rank c.args.rank (lives_told w)))
    c.self.view_is
    (c.numbers_of.ensures t.config ls
    (subst (λ (ts : List LifeTally). AreLives t.config ts ls) (sym c.deref.ensures.value)
    c.self.invariant.tally.lives))
