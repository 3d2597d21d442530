-- What is counted of how often flows waited where MAPs of their lives start.
use Rattle.std.specs.Prelude.{◌≡◌, ℕ, ◌+◌, ◌*◌, ◌<◌, ◌≤◌, List, length, slice_index_or}
use Rattle.std.specs.Prelude.{is_some, if◌then◌else◌}
use Rattle.minislots.specs.declared.config.Config.{Config}
use Rattle.minislots.specs.Config.{IsLawful}
use Rattle.flow_book.specs.declared.standing.Standing.{Standing}
use Rattle.flow_book.specs.declared.standing.Standing.TheVariants.{UnderReservation, AtCeiling}
use Rattle.sched_calls.specs.declared.reply.Reply.{Reply}
use Rattle.sched_calls.specs.declared.reply.Entry.{Entry}
use Rattle.sched_calls.specs.declared.reply.TheConstants.{MAX_WHOLE_HISTORY}
use Rattle.sched_history.specs.Facts.{waits_by}
use Rattle.sched_history.specs.History.{IsStep, IsLegal}
use Rattle.sched_report.specs.declared.life.LifeTally.{LifeTally}
use Rattle.sched_report.specs.declared.waits.Waited.{Waited}
use Rattle.sched_report.specs.declared.waits.Waiters.{Waiters}
use Rattle.sched_report.specs.Lives.{PastLife, lives_in}
use Rattle.sched_report.specs.ToldLives.{AreLives}
pub use Rattle.sched_report.specs.WaitsIn.{times, waits_since, waits_in, under_in, held_in}

-- so often a life is counted by the flows of these SIDs: not where it has ended
abbrev pub counted_by : List ℕ → LifeTally → ℕ
counted_by sids t = if is_some t.to then 0 else times t.sid sids

-- each life is counted once more for each time that its SID is among these, where it goes on
abbrev pub HasCounted : List ℕ → List LifeTally → List ℕ → List ℕ → Type 0
HasCounted sids ts old new = (k n : ℕ) (t : LifeTally) → k < length ts
    → slice_index_or new k n ≡ slice_index_or old k n + counted_by sids (slice_index_or ts k t)

-- What is counted is of the lives of this history behind so many of its entries, each at its place; a MAP counts at
-- most the flows that may live
pub record AreWaits (standing : Standing) (c : Config) (passed : ℕ) (h : List Entry) (counts : List ℕ) : Type 0 where
  pub long : length counts ≡ length (lives_in passed h)
  pub each : (k n : ℕ) (life : PastLife) → k < length counts
      → slice_index_or counts k n ≡ waits_in standing c (slice_index_or (lives_in passed h) k life)
  pub few : (k n : ℕ) → k < length counts → slice_index_or counts k n ≤ 8192 * length h

-- The entry may follow this history, of whose lives this is told and counted behind so many of its entries, and the
-- flows of these SIDs wait and stand so where its MAP starts
pub record MayCountWaits (standing : Standing) (c : Config) (passed : ℕ) (h : List Entry) (ts : List LifeTally)
    (old sids : List ℕ) (e : Entry) : Type 0 where
  pub lawful : IsLawful c
  pub legal : IsLegal c h
  pub step : IsStep c h e.call e.reply
  pub short : length h < MAX_WHOLE_HISTORY
  pub lives : AreLives c ts (lives_in passed h)
  pub counts : AreWaits standing c passed h old
  pub passed_few : passed ≤ length h
  pub waits : sids ≡ waits_by standing c h e.reply

-- What is counted of both is of the lives of this history behind so many of its entries
pub record AreWaited (c : Config) (passed : ℕ) (h : List Entry) (w : Waited) : Type 0 where
  pub under : AreWaits UnderReservation c passed h w.under.items
  pub held : AreWaits AtCeiling c passed h w.held.items

-- these are the SIDs of the flows that wait where the MAP of a reply starts that follows this history
pub record AreWaiters (c : Config) (h : List Entry) (reply : Reply) (w : Waiters) : Type 0 where
  pub under : w.under.items ≡ waits_by UnderReservation c h reply
  pub held : w.held.items ≡ waits_by AtCeiling c h reply

-- both may be counted with the entry
pub record MayCountBoth (c : Config) (passed : ℕ) (h : List Entry) (ts : List LifeTally) (w : Waited)
    (waiters : Waiters) (e : Entry) : Type 0 where
  pub under : MayCountWaits UnderReservation c passed h ts w.under.items waiters.under.items e
  pub held : MayCountWaits AtCeiling c passed h ts w.held.items waiters.held.items e
