-- The flow that is next, at the place where it was found, and the book after its grant.
use Rattle.std.proofs.Common.{◌≡◌, ap, ℕ, List, map, set, get_or, slice_get}
use Rattle.std.specs.Option.{IsSomeAnd}
use Rattle.minislots.specs.declared.config.Config.{Config}
use Rattle.flow_book.specs.declared.flow.Flow.{Flow}
use Rattle.flow_book.specs.Flows.{LiveFlow}
use Rattle.flow_book.specs.Reserved.{with_grant}
use Rattle.flow_book.specs.Choice.{IsAmount, IsNext}
use Rattle.flow_book.specs.Entry.{live, KeepsSums, IsBook}
use Rattle.flow_book.specs.Book.{Ascend}
use Rattle.flow_book.proofs.Places.{StandsAt, placed-at, some-here}
use Rattle.flow_book.proofs.Changes.{placed-is_sound, granted-sound}
use Rattle.flow_book.proofs.Sums.{placed-book}

-- the flow at this place is next
pub record IsFound (c : Config) (items : List Flow) (start room i : ℕ) (f : Flow) : Type 0 where
  pub stands : StandsAt f.sid items i f
  pub next : IsNext c (map live items) start room (live f)

module _ (c : Config) (items : List Flow) (start room i : ℕ) (f : Flow) where
  -- the flow at a place where the test for the next to be served holds is the one that is found
  pub found-next : Ascend (map live items)
      → IsSomeAnd (slice_get (map live items) i) (IsNext c (map live items) start room) → f ≡ get_or items i f
      → IsFound c items start room i f
  found-next up some is =
      let here = some-here (IsNext c (map live items) start room) items i some in
      record { stands = placed-at items i f up here.0 is; next = here.1 f is }

  -- with a grant of its amount it is in its place of the book
  pub served-book : (bytes : ℕ) (e : Flow) → IsBook c items → IsFound c items start room i f
      → live e ≡ with_grant c (record { start = start; bytes = bytes }) (live f)
      → IsAmount c (live f) start room bytes → KeepsSums c e → IsBook c (set items i e)
  served-book bytes e are is more amount keeps =
      let sound = placed-is_sound c f.sid items i f are.sound is.stands in
      placed-book c f.sid items i e f are is.stands (ap (λ (g : LiveFlow). g.sid) more)
      (rw more (granted-sound c start bytes room (live f) sound amount.allowed)) keeps
