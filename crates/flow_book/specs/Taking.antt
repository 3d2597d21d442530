-- What a book is when it takes in the data grants of a MAP.
use Rattle.std.specs.Prelude.{◌≡◌, ℕ, ◌≤◌, ◌⊎◌, List, map, take, drop, slice_get}
use Rattle.std.specs.List.{AllByRecursion, AllZip}
use Rattle.minislots.specs.declared.config.Config.{Config}
use Rattle.flow_book.specs.declared.flow.Flow.{Flow}
use Rattle.flow_book.specs.declared.waiting.Waiting.{Waiting}
use Rattle.flow_book.specs.declared.tiers.Tier.{Tier}
use Rattle.flow_book.specs.Entry.{live, IsBook}
use Rattle.flow_book.specs.Queue.{IsAt, IsIn, AreOnce, IsQueueAmong}
use Rattle.flow_book.specs.Overlay.{IsSameFlow}
use Rattle.flow_book.specs.Tiers.{HasTier}

-- the flows of a book before and after (`items`) a MAP, and those that it served, with their tiers: each other flow is
-- the same
pub record CanBeTaken (c : Config) (old items : List Flow) (tiers : List Tier) (served : List Waiting) : Type 0 where
  pub before : IsBook c old
  pub book : IsBook c items
  pub each : AllByRecursion (IsAt items) served
  pub tiered : AllByRecursion (HasTier items tiers) served
  pub once : AreOnce served
  pub same : AllZip IsSameFlow (map live old) (map live items)
  pub rest : (place : ℕ) → IsIn place served ⊎ (slice_get (map live items) place ≡ slice_get (map live old) place)

-- the book has the flows after the MAP
pub record IsTaken (c : Config) (new items : List Flow) : Type 0 where
  pub shows : map live new ≡ map live items
  pub book : IsBook c new

-- no place is in both
abbrev pub AreApart : List Waiting → List Waiting → Type 0
AreApart done served = (place : ℕ) → IsIn place done → IsIn place served → ⊥

-- Of two lists by their turns those that are done, and those served before a place, stand in one queue by their turns,
-- and none of the others comes earlier
pub record AreMerged (items : List Flow) (done left served : List Waiting) (at : ℕ)
    (queue : List Waiting) : Type 0 where
  pub order : IsQueueAmong items (λ place. IsIn place done ⊎ IsIn place (take at served)) queue
  pub last : ℕ
  pub before : AllByRecursion (λ w. w.turn ≤ last) queue
  pub ahead : AllByRecursion (λ w. last ≤ w.turn) left
  pub behind : AllByRecursion (λ w. last ≤ w.turn) (drop at served)
