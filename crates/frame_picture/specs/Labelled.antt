-- A label and a number.
use Rattle.std.specs.Prelude.{ℕ, List, ◌++◌, decimal}

-- a label and a number in decimal
unfoldable pub labelled : List ℕ → ℕ → List ℕ
labelled label n = label ++ decimal n
