-- The numbers of the flows that wait in line, put in order one by one.
use Rattle.std.specs.Prelude.{ℕ, ◌/◌, ◌%◌, ◌^◌, ◌≤◌, min, Bool, true, nat_lt, List, [], ◌∷◌, map, filter, Option, None, Some}
use Rattle.std.specs.List.{AllByRecursion}
use Rattle.flow_book.specs.declared.shown.Hidden.{Hidden}
use Rattle.flow_book.specs.Flows.{LiveFlow}
use Rattle.sched_calls.specs.Sids.{put_in}
use Rattle.flow_book.specs.Shown.{waits, number_in_line}

-- the numbers of the flows that wait
abbrev pub numbers_of : List LiveFlow → List ℕ
numbers_of flows = map number_in_line (filter waits flows)

-- a number by itself
abbrev pub itself : ℕ → ℕ
itself n = n

-- these numbers put into those that stand in order
abbrev pub sorted_into : List ℕ → List ℕ → List ℕ
sorted_into line [] = line
sorted_into line (n ∷ ns) = sorted_into (put_in itself n line) ns

-- the numbers in order
abbrev pub sorted : List ℕ → List ℕ
sorted ns = sorted_into [] ns

-- a number in line ends with the SID
abbrev pub sid_of : ℕ → ℕ
sid_of n = n % 2 ^ 16

-- none stands before a lesser one
abbrev pub IsInOrder : List ℕ → Type 0
IsInOrder [] = Unit {0}
IsInOrder (n ∷ ns) = AllByRecursion (λ m. n ≤ m) ns × IsInOrder ns

-- a flow comes before the first that is hidden, where one is
abbrev pub comes_first : Option Hidden → LiveFlow → Bool
comes_first None f = true
comes_first (Some hidden) f = nat_lt (number_in_line f) hidden.number

-- the least progress, held back by the first that is hidden
abbrev pub held_back : Option Hidden → ℕ → ℕ
held_back None progress = progress
held_back (Some hidden) progress = min (hidden.number / 2 ^ 16) progress
