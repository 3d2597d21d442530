-- A draft before anything stands in its frame, and that of a frame in which nobody sends.
use Rattle.std.specs.Prelude.{◌≡◌, ℕ, ◌≤◌, ◌^◌, true, Some, List, [], ◌∷◌, length}
use Rattle.std.specs.List.{AllByRecursion, slice_get}
use Rattle.minislots.specs.declared.config.Config.{Config}
use Rattle.minislots.specs.Config.{IsLawful}
use Rattle.flow_book.specs.Flows.{LiveFlow}
use Rattle.flow_book.specs.Book.{BookView}
use Rattle.flow_book.specs.Overlay.{OverlayView}
use Rattle.flow_book.specs.Choice.{HasStartedBy}
use Rattle.map_build.specs.declared.draft.Draft.{Draft}
use Rattle.map_build.specs.declared.TheConstants.{MAX_WAITING}
use Rattle.map_build.specs.FrameMap.{quiet_element}

-- the overlay is of the book, with no data grant yet
abbrev pub IsOverlayOf : BookView → OverlayView → Type 0
IsOverlayOf book overlay = overlay ≡ record { config = book.config; before = book.flows; flows = book.flows }

-- the draft has the flows of the frame that starts there, and nothing stands in the frame yet
pub record IsBegun (c : Config) (flows : List LiveFlow) (start : ℕ) (d : Draft) : Type 0 where
  pub bounded : start ≤ 2 ^ 61
  pub config : d.overlay.config ≡ c
  pub before : d.overlay.before ≡ flows
  pub flows_are : d.overlay.flows ≡ flows
  pub starts : d.start ≡ start
  pub offset : d.offset ≡ 0
  pub grants : d.grants ≡ 0
  pub elements : d.elements.items ≡ []
  pub bytes_of : d.bytes.items ≡ []
  pub marks : length d.met ≡ MAX_WAITING
  pub unmarked : (place : ℕ) → slice_get d.met place ≡ Some true → ⊥
  pub started : AllByRecursion (HasStartedBy start) flows

-- the draft has these flows and an idle over the whole frame, in which nobody sends
pub record IsQuiet (c : Config) (flows : List LiveFlow) (start : ℕ) (d : Draft) : Type 0 where
  pub lawful : IsLawful c
  pub config : d.overlay.config ≡ c
  pub before : d.overlay.before ≡ flows
  pub flows_are : d.overlay.flows ≡ flows
  pub starts : d.start ≡ start
  pub offset : d.offset ≡ c.frame
  pub elements : d.elements.items ≡ quiet_element c ∷ []
  pub bytes_of : d.bytes.items ≡ 0 ∷ []
  pub unmarked : (place : ℕ) → slice_get d.met place ≡ Some true → ⊥
