-- What a MAP served, for the numbers in line.
use Rattle.std.proofs.Common.{◌≡◌, ℕ, Bool, List, map}
use Rattle.std.specs.List.{AllZip}
use Rattle.minislots.specs.declared.config.Config.{Config}
use Rattle.flow_book.specs.declared.flow.Flow.{Flow}
use Rattle.flow_book.specs.declared.waiting.Waiting.{Waiting}
use Rattle.flow_book.specs.declared.tiers.Tier.{Tier}
use Rattle.flow_book.specs.Flows.{LiveFlow}
use Rattle.flow_book.specs.Entry.{live, IsBook}
use Rattle.flow_book.specs.Mending.{AreServed}
use Rattle.flow_book.specs.Numbers.{LineView, IsLineOf}
use Rattle.flow_book.specs.Overlay.{IsOverlay, IsSameFlow}
use Rattle.flow_book.specs.Queue.{IsQueueIn, served_of}
use Rattle.flow_book.proofs.InParts.{served-each}
use Rattle.flow_book.proofs.StillWaiting.{order-in}

-- the flows of a book before and after a MAP, by its overlay
pub are-served : (c d : Config) (before flows : List LiveFlow) (is_long : Bool) (queue served : List Waiting)
    (tiers : List Tier) (capacity first : ℕ) (old : List Flow)
    → (o : IsOverlay c before flows is_long queue served tiers capacity first) → IsBook d old → map live old ≡ before
    → AreServed c old o.items (served_of is_long queue served)
are-served c d before flows is_long queue served tiers capacity first old o book is = record {
  config = d;
  before = book;
  book = o.book;
  each = (served-each is_long o.items queue served o.order).0;
  once = (served-each is_long o.items queue served o.order).1;
  same = rw (is, o.shows) o.same;
  rest = rw (is, o.shows) o.rest;
}

-- What is shown of a MAP: its flows, the two parts, and those that may have changed, with a line that is that of the
-- flows before it
pub record IsShownOf (c : Config) (old items : List Flow) (queue served changed : List Waiting) (line : LineView) : Type 0
  where
    pub order : IsQueueIn items queue served
    pub same : AllZip IsSameFlow (map live old) (map live items)
    pub changes : AreServed c old items changed
    pub lined : IsLineOf (map live old) line

-- an overlay has these
pub shown-of : (c d : Config) (before flows : List LiveFlow) (is_long : Bool) (queue served : List Waiting)
    (tiers : List Tier) (capacity first : ℕ) (old : List Flow) (xs ys zs : List Waiting) (line : LineView)
    → (o : IsOverlay c before flows is_long queue served tiers capacity first) → IsBook d old → map live old ≡ before
    → xs ≡ queue → ys ≡ served → zs ≡ served_of is_long queue served → IsLineOf before line
    → IsShownOf c old o.items xs ys zs line
shown-of c d before flows is_long queue served tiers capacity first old xs ys zs line o book is left right changed lined =
    record {
      order = rw (left, right) (order-in is_long o.items queue served o.order);
      same = rw (is, o.shows) o.same;
      changes = rw changed (are-served c d before flows is_long queue served tiers capacity first old o book is);
      lined = rw is lined;
    }
