-- Numbers in columns.
use Rattle.std.specs.Prelude.{ℕ, ◌-◌, List, ◌++◌, length, replicate, codes, decimal}

-- so many spaces
unfoldable pub spaces : ℕ → List ℕ
spaces n = replicate n 32

-- a column: a number in decimal at the right of so many places, and a space
unfoldable pub column : ℕ → ℕ → List ℕ
column places n = spaces (places - length (decimal n)) ++ (decimal n ++ codes " ")
