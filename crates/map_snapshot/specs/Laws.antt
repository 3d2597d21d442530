-- What follows where a list of maps only grows.
use Rattle.std.specs.Prelude.{◌≡◌, ℕ, ◌+◌, ◌≤◌, List, [], Some, None, slice_get}
use mathlib.Core.List.{IsPrefix}
use Rattle.map_snapshot.specs.declared.printed.Printed.{Printed}
use Rattle.map_snapshot.specs.Maps.{map_in, IsNewest}

-- the newest of the longer list has no lower version
abbrev pub NeverFalls : Type 0
NeverFalls = (list longer : List (List ℕ)) (p q : Printed) → IsPrefix list longer → IsNewest (Some p) list
    → IsNewest (Some q) longer
    → p.version ≤ q.version

-- where the shorter list has a newest, the longer has one
abbrev pub StaysRead : Type 0
StaysRead = (list longer : List (List ℕ)) → IsPrefix list longer → IsNewest None longer → list ≡ []

-- the newest of a list stands at its version, counted from 1, in each longer list
abbrev pub StandsAtItsVersion : Type 0
StandsAtItsVersion = (list longer : List (List ℕ)) (p : Printed) (k : ℕ) → IsPrefix list longer
    → IsNewest (Some p) list → p.version ≡ k + 1
    → slice_get longer k ≡ Some (map_in p)
