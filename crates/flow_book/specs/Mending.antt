-- What a MAP has changed of the flows that wait.
use Rattle.std.specs.Prelude.{◌≡◌, ℕ, ◌⊎◌, List, map, slice_get, Option, None, Some, if◌then◌else◌}
use Rattle.std.specs.List.{AllByRecursion, AllZip}
use Rattle.minislots.specs.declared.config.Config.{Config}
use Rattle.flow_book.specs.declared.flow.Flow.{Flow}
use Rattle.flow_book.specs.declared.waiting.Waiting.{Waiting}
use Rattle.flow_book.specs.Entry.{live, IsBook}
use Rattle.flow_book.specs.Overlay.{IsSameFlow}
use Rattle.flow_book.specs.Pending.{number_at}
use Rattle.flow_book.specs.Queue.{IsAt, IsIn, AreOnce, still_waits}

-- The flows of a book before and after (`items`) a MAP, and those that it served: each other flow is the same
pub record AreServed (c : Config) (old items : List Flow) (served : List Waiting) : Type 0 where
  pub config : Config
  pub before : IsBook config old
  pub book : IsBook c items
  pub each : AllByRecursion (IsAt items) served
  pub once : AreOnce served
  pub same : AllZip IsSameFlow (map live old) (map live items)
  pub rest : (place : ℕ) → IsIn place served ⊎ (slice_get (map live items) place ≡ slice_get (map live old) place)

-- the number after a MAP of one that it served, where it still waits, by the flows before it
abbrev pub number_after : List Flow → Waiting → Option ℕ
number_after flows w = if still_waits w then Some (number_at flows w) else None
