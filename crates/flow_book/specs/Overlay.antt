-- The flows of a book while a MAP is planned.
use Rattle.std.specs.Prelude.{◌≡◌, ℕ, ◌⊎◌, Bool, true, List, map, filter, slice_get, if◌then◌else◌}
use Rattle.std.specs.List.{AllByRecursion, AllZip}
use Rattle.minislots.specs.declared.config.Config.{Config}
use Rattle.flow_book.specs.declared.flow.Flow.{Flow}
use Rattle.flow_book.specs.declared.waiting.Waiting.{Waiting}
use Rattle.flow_book.specs.declared.tiers.Tier.{Tier}
use Rattle.flow_book.specs.Flows.{LiveFlow}
use Rattle.flow_book.specs.Entry.{live, IsBook}
use Rattle.flow_book.specs.Queue.{IsIn, IsOrderIn, served_of, HasRoom, NoneWaitsBefore, still_waits}
use Rattle.flow_book.specs.Tiers.{HasTier}
use Rattle.flow_book.specs.Numbers.{LineView, IsLineOf}

-- what contracts see of an overlay: the channel's configuration, the live flows of its book, and with the data grants
-- of the MAP
pub record OverlayView : Type 0 where
  pub config : Config
  pub before : List LiveFlow
  pub flows : List LiveFlow

-- a flow is the same but for its data grants and what these charge
abbrev pub IsSameFlow : LiveFlow → LiveFlow → Type 0
IsSameFlow f g =
    record f { grants = g.grants; sustained = g.sustained; peak = g.peak; reserved = g.reserved } ≡ g

-- those that a MAP served have their tiers, and so have those of the queue that still wait
pub record HaveTiers (is_long : Bool) (items : List Flow) (tiers : List Tier) (queue served : List Waiting) : Type 0 where
  pub ones : AllByRecursion (HasTier items tiers) (served_of is_long queue served)
  pub others : AllByRecursion (HasTier items tiers) (filter still_waits queue)

-- The flows with the data grants are a book's, and all of them that wait are in the queue or among those served, with
-- their tiers and with room for them; where many wait none does before a place in the queue. They are those before but
-- for their grants, and each that was not served has no more of these.
pub record IsOverlay (c : Config) (before flows : List LiveFlow) (is_long : Bool) (queue served : List Waiting)
    (tiers : List Tier) (capacity first : ℕ) : Type 0 where
  pub items : List Flow
  pub shows : map live items ≡ flows
  pub book : IsBook c items
  pub order : IsOrderIn is_long items queue served
  pub tiered : HaveTiers is_long items tiers queue served
  pub room : HasRoom is_long queue served capacity
  pub passed : is_long ≡ true → NoneWaitsBefore first queue
  pub same : AllZip IsSameFlow before flows
  pub rest : (place : ℕ) → IsIn place (served_of is_long queue served)
      ⊎ (slice_get flows place ≡ slice_get before place)

-- and the line is that of the flows before, or where the MAP was shown that of the flows with the data grants
pub record IsLinedOverlay (c : Config) (before flows : List LiveFlow) (is_long : Bool) (queue served : List Waiting)
    (tiers : List Tier) (capacity first : ℕ) (line : LineView) (is_shown : Bool) : Type 0 where
  pub overlay : IsOverlay c before flows is_long queue served tiers capacity first
  pub lined : IsLineOf (if is_shown then flows else before) line
