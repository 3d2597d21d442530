-- The lives gone through begin anew, and the others are as they were.
use Rattle.std.proofs.Common.{◌≡◌, ℕ, ◌<◌, ◌≤◌, List, length, get_or}
use Rattle.minislots.specs.declared.config.Config.{Config}
use Rattle.sched_calls.specs.declared.reply.Entry.{Entry}
use Rattle.sched_history.specs.History.{IsLegal}
use Rattle.sched_history.specs.Time.{next_after}
use Rattle.sched_report.specs.declared.life.LifeTally.{LifeTally}
use Rattle.sched_report.specs.Lives.{PastLife, lives_in}
use Rattle.sched_report.specs.Told.{IsLifeOf}
use Rattle.sched_report.specs.ToldLives.{AreLives}
use Rattle.sched_report.proofs.lives.renew_each.Given as goal

abbrev pub invariant-loop-index : goal.invariant-loop-index
invariant-loop-index l = record {
  long : length l.lives ≡ length l.initial.lives;
  done : (k : ℕ) (t : LifeTally) → k < l.index → (c : Config) (p : ℕ) (h : List Entry) (life : PastLife)
      → IsLegal c h → l.next ≡ next_after c h → AreLives c l.initial.lives (lives_in p h)
      → IsLifeOf c (get_or l.lives k t) (get_or (lives_in (length h) h) k life);
  rest : (k : ℕ) (t : LifeTally) → l.index ≤ k → get_or l.lives k t ≡ get_or l.initial.lives k t;
  sids : (k : ℕ) (t : LifeTally) → k < length l.initial.lives → (get_or l.lives k t).sid ≡ (get_or l.initial.lives k t).sid;
  ends : (k : ℕ) (t : LifeTally) → k < length l.initial.lives → (get_or l.lives k t).to ≡ (get_or l.initial.lives k t).to;
}
