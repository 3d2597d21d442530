-- The lives gone through are summed.
use Rattle.std.proofs.Common.{List, take}
use Rattle.minislots.specs.declared.config.Config.{Config}
use Rattle.sched_report.specs.Lives.{PastLife}
use Rattle.sched_report.specs.Ranks.{lives_of_rank, AreRankSums, AreFew}
use Rattle.sched_report.specs.ToldLives.{AreLives}
use Rattle.sched_report.proofs.ranks.sums_of.Given as goal

abbrev pub invariant-loop-life : goal.invariant-loop-life
invariant-loop-life l = record {
  sums : (c : Config) (ls : List PastLife) → AreLives c l.lives ls
      → AreRankSums c l.sums (lives_of_rank l.rank (take l.life-index ls));
  few : AreFew l.sums l.life-index;
}
