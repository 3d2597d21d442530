-- Numbers in the columns of a table.
use Rattle.std.specs.Prelude.{ℕ, ◌-◌, List, ◌++◌, length, replicate, codes}

-- a text at the right edge of a column of so many places, behind a space at least
unfoldable pub column : ℕ → List ℕ → List ℕ
column places text = codes " " ++ replicate (places - length text) 32 ++ text
