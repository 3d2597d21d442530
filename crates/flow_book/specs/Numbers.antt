-- The numbers in line of the flows that wait, kept from call to call.
use Rattle.std.specs.Prelude.{◌≡◌, ◌≢◌, ℕ, Bool, true, List, ◌∷◌, set, slice_get, Option, None, Some}
use Rattle.std.specs.Prelude.{if◌then◌else◌}
use Rattle.std.specs.List.{AllByRecursion}
use Rattle.flow_book.specs.declared.flow.Flow.{Flow}
use Rattle.flow_book.specs.Flows.{LiveFlow}
use Rattle.flow_book.specs.Entry.{live}
use Rattle.flow_book.specs.Shown.{waits, number_in_line}
use Rattle.flow_book.specs.Line.{numbers_of, sorted}

-- what contracts see of a line: the numbers of those that wait, in order, and whether they are known
pub record LineView : Type 0 where
  pub numbers : List ℕ
  pub is_known : Bool

-- a line is that of these flows, where it is known
abbrev pub IsLineOf : List LiveFlow → LineView → Type 0
IsLineOf flows line = line.is_known ≡ true → line.numbers ≡ sorted (numbers_of flows)

-- the number in line of a flow, where it waits
abbrev pub number_where : LiveFlow → Option ℕ
number_where f = if waits f then Some (number_in_line f) else None

-- with a number more, where there is one
abbrev pub listed : Option ℕ → List ℕ → List ℕ
listed None ns = ns
listed (Some n) ns = n ∷ ns

-- none of these is that number, where there is one
abbrev pub IsApart : Option ℕ → List ℕ → Type 0
IsApart None ns = Unit {0}
IsApart (Some n) ns = AllByRecursion (λ m. m ≢ n) ns

-- Two lists of flows have the same numbers in line but for one, which another takes the place of
pub record DifferByOne (before after : Option ℕ) (old new : List LiveFlow) : Type 0 where
  pub others : List ℕ
  pub was : sorted (numbers_of old) ≡ sorted (listed before others)
  pub is : sorted (numbers_of new) ≡ sorted (listed after others)
  pub left : IsApart before others
  pub fresh : IsApart after others

-- The flow at this place of a book has changed, which had this number where numbers are known
pub record HasChanged (place : ℕ) (is_known : Bool) (before : Option ℕ) (old new : List Flow) : Type 0 where
  pub flow : Flow
  pub after : Flow
  pub at : slice_get old place ≡ Some flow
  pub sid : after.sid ≡ flow.sid
  pub is : new ≡ set old place after
  pub number : is_known ≡ true → before ≡ number_where (live flow)
