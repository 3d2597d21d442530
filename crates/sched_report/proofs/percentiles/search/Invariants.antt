-- Enough do not exceed the upper bound, and not enough what is below the lower one.
use Rattle.std.proofs.Common.{ℕ, ◌*◌, ◌-◌, ◌<◌, ◌≤◌, List}
use Rattle.minislots.specs.declared.config.Config.{Config}
use Rattle.sched_report.specs.Spread.{count_upto}
use Rattle.sched_report.specs.Steps.{IsBelow}
use Rattle.sched_report.specs.Lives.{PastLife}
use Rattle.sched_report.specs.Ranks.{chosen, delays_in_all}
use Rattle.sched_report.specs.ToldLives.{AreLives}
use Rattle.sched_report.proofs.percentiles.search.Given as goal

abbrev pub invariant-loop-least : goal.invariant-loop-least
invariant-loop-least l = record {
  order : l.least ≤ l.most;
  enough : (c : Config) (ls : List PastLife) → AreLives c l.lives ls
      → l.wanted ≤ 100 * count_upto l.most (delays_in_all c (chosen l.rank ls));
  below : (c : Config) (ls : List PastLife) → AreLives c l.lives ls → (n : ℕ) → IsBelow n l.least
      → 100 * count_upto n (delays_in_all c (chosen l.rank ls)) < l.wanted;
}

abbrev pub decreases-loop-least : goal.decreases-loop-least
decreases-loop-least l = l.most - l.least
