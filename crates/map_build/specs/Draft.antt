-- The MAP of one frame while it is made: its elements and byte counts.
use Rattle.std.specs.Prelude.{◌≡◌, ℕ, ◌+◌, List, [], ◌∷◌, ◌++◌, map}
use Rattle.map_build.specs.declared.draft.Draft.{Draft}
use Rattle.map_build.specs.declared.purpose.Allocation.{Allocation}
use Rattle.map_build.specs.Purpose.{element_of, bytes_in}
use Rattle.map_build.specs.FrameMap.{null_element, pending_to, pending}

-- a draft with an element more at its offset, of so many minislots and bytes
pub record Puts (sid iuc slots bytes : ℕ) (old new : Draft) : Type 0 where
  pub elements : new.elements.items ≡ old.elements.items ++ record { sid = sid; iuc = iuc; offset = old.offset } ∷ []
  pub bytes_of : new.bytes.items ≡ old.bytes.items ++ bytes ∷ []
  pub offset : new.offset ≡ old.offset + slots
  pub overlay : new.overlay ≡ old.overlay
  pub start : new.start ≡ old.start
  pub grants : new.grants ≡ old.grants
  pub met : new.met ≡ old.met

-- a draft with the element and the bytes of an allocation more, at its offset
abbrev pub PutsAllocation : Allocation → Draft → Draft → Type 0
PutsAllocation a old new = Puts (element_of old.overlay.config a).sid (element_of old.overlay.config a).iuc a.slots
    (bytes_in old.overlay.config a) old new

-- a draft with a pending grant more to each of these SIDs
pub record PutsPending (sids : List ℕ) (old new : Draft) : Type 0 where
  pub elements : new.elements.items ≡ old.elements.items ++ map (pending_to old.overlay.config) sids
  pub bytes_of : new.bytes.items ≡ old.bytes.items ++ map (λ sid. 0) sids
  pub offset : new.offset ≡ old.offset
  pub overlay : new.overlay ≡ old.overlay
  pub start : new.start ≡ old.start
  pub grants : new.grants ≡ old.grants
  pub met : new.met ≡ old.met

-- a draft with the Null and the pending grants
pub record Ends (old new : Draft) : Type 0 where
  pub elements : new.elements.items
      ≡ old.elements.items ++ null_element old.overlay.config ∷ pending old.overlay.config old.overlay.flows
  pub bytes_of : new.bytes.items ≡ old.bytes.items ++ 0 ∷ map (λ e. 0) (pending old.overlay.config old.overlay.flows)
  pub offset : new.offset ≡ old.offset
  pub overlay : new.overlay ≡ old.overlay
  pub start : new.start ≡ old.start
  pub grants : new.grants ≡ old.grants
  pub met : new.met ≡ old.met
