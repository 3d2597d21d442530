-- What holds of the list of published maps between any two steps, and what each step tells.
use Rattle.std.specs.Prelude.{◌≡◌, ◌⊎◌, ℕ, true, List, [], ◌∷◌, ◌++◌, length, map, Option, Some, None}
use mathlib.Core.Option.{some}
use lib.ListN.{get_elem?}
use Rattle.logbook.specs.Pages.{Cell, Step, View, Book, Named}
use Rattle.map_snapshot.specs.declared.list.Entry.{Entry}
use Rattle.map_snapshot.specs.declared.list.Entry.TheVariants.{Published}
use Rattle.map_snapshot.specs.declared.list.TheConstants.{ENDED}
use Rattle.map_snapshot.specs.Maps.{maps_in, IsWhole}

-- the list has maps alone, and this is how many
abbrev pub IsOpen : ℕ → List Entry → Type 0
IsOpen n log = (log ≡ map Published (maps_in log)) × (n ≡ length (maps_in log))

-- the list has ended, and the number says so
abbrev pub HasEnded : ℕ → List Entry → Type 0
HasEnded n log = IsWhole log × (n ≡ ENDED)

-- the first word is the length of the list, or says that it has ended. A book has two words, of which the second is
-- not used
pub record CountsList (cells : List Cell) (log : List Entry) : Type 0 where
  pub number : ℕ
  pub words : cells ≡ (number, true) ∷ (0, true) ∷ []
  pub stands : IsOpen number log ⊎ HasEnded number log

-- the word that counts the list of this book
abbrev pub word_of : Book → Named
word_of b = record { tracked = true; key = 0; book = b }

-- where the number found is the one expected, the list had so many maps and no end, and what was asked for is behind
-- them
abbrev pub Added : Step Entry → View Entry (Unit {0}) → ℕ → View Entry (Unit {0}) → Type 0
Added s v found w = found ≡ s.old
    → (before : List (List ℕ)) × (w.0 ≡ map Published before ++ s.ask ∷ []) × (length before ≡ s.old)

-- an end knows nothing, or this word
abbrev pub IsNameOf : Named → Option Named → Type 0
IsNameOf word v = (v ≡ None) ⊎ (v ≡ Some word)

-- each end that knows a word knows this one
abbrev pub AllName : Named → List (Option Named) → Type 0
AllName word names = (i : ℕ) (v : Option Named) → get_elem? names i ≡ some v → IsNameOf word v
