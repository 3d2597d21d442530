-- Some flows of a book are left, the others taken out.
use Rattle.std.proofs.Common.{◌≡◌, ◌≢◌, refl, ℕ, Bool, not, ◌==◌, List, [], ◌∷◌, filter, find, arith}
use Rattle.std.proofs.lemmas.Bool.Decides.{nat_tests}
use Rattle.minislots.specs.declared.config.Config.{Config}
use Rattle.sched_calls.proofs.Removal.{all-filter, ascends-filter}
use Rattle.flow_book.specs.Flows.{LiveFlow}
use Rattle.flow_book.specs.Entry.{IsSoundFlow, IsSoundBook}
use Rattle.flow_book.specs.Book.{Room}

-- the flows that are left are sound
pub sound-filter : (c : Config) (p : LiveFlow → Bool) (flows : List LiveFlow) → IsSoundBook c flows
    → IsSoundBook c (filter p flows)
sound-filter c p flows are = record {
  ascending = ascends-filter (λ f. f.sid) p flows are.ascending;
  each = all-filter (IsSoundFlow c) p flows are.each;
}

-- the room of the others is found as before
pub room-filter : (sid other : ℕ) (rooms : List Room) → other ≢ sid
    → find (λ r. r.sid == other) (filter (λ r. not (r.sid == sid)) rooms) ≡ find (λ r. r.sid == other) rooms
room-filter sid other [] differ = refl
room-filter sid other (r ∷ rooms) differ = grind (arith, nat_tests, room-filter sid other rooms differ)
