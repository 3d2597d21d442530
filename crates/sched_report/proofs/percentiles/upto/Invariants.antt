-- The lives gone through are counted.
use Rattle.std.proofs.Common.{◌*◌, ◌^◌, ◌≤◌, List, take}
use Rattle.minislots.specs.declared.config.Config.{Config}
use Rattle.sched_report.specs.Steps.{CountsUpto}
use Rattle.sched_report.specs.Lives.{PastLife}
use Rattle.sched_report.specs.Ranks.{chosen, delays_in_all}
use Rattle.sched_report.specs.ToldLives.{AreLives}
use Rattle.sched_report.proofs.percentiles.upto.Given as goal

abbrev pub invariant-loop-life : goal.invariant-loop-life
invariant-loop-life l = record {
  counts : (c : Config) (ls : List PastLife) → AreLives c l.lives ls
      → CountsUpto l.delay l.count (delays_in_all c (chosen l.rank (take l.life-index ls)));
  few : l.count ≤ 2 ^ 44 * l.life-index;
}
