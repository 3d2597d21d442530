-- The lives of a legal history that have not ended go up to its end.
use Rattle.std.proofs.Common.{◌≡◌, ℕ, ◌<◌, ◌≤◌, false, List, ◌++◌, length, get_or, sym, ap, ◌∙◌}
use Rattle.minislots.specs.declared.config.Config.{Config}
use Rattle.sched_calls.specs.declared.reply.Entry.{Entry}
use Rattle.sched_history.specs.History.{IsLegal}
use Rattle.sched_history.specs.Time.{next_after}
use Rattle.sched_report.specs.Lives.{PastLife, lives_in}
use Rattle.sched_report.proofs.LivesEach.{life_in}

-- the life at a place lived up to where the next frame starts
pub live_now : (c : Config) (p : ℕ) (h : List Entry) → IsLegal c h → p ≤ length h → (k : ℕ) (d : PastLife)
    → k < length (lives_in p h) → (slot : ℕ) → slot ≡ next_after c h → (get_or (lives_in p h) k d).ended ≡ false
    → slot ≡ next_after c ((get_or (lives_in p h) k d).upto ++ (get_or (lives_in p h) k d).since)
live_now c p h legal few k d below slot is alive =
    is ∙ ap (next_after c) (sym ((life_in c p h legal few k d below).whole alive))
