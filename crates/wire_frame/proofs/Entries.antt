-- A table is held against a function at each place, by computing.
use Rattle.std.proofs.Common.{◌≡◌, ℕ, zero, suc, ◌+◌, ◌<◌, Bool, true, ◌&&◌, T, eqb, List, [], ◌∷◌, length, get_or}
use Rattle.std.proofs.Common.{ap, ◌∙◌, eqb→eq, arith}
use lib.Ieee.Fits.{and_l, and_r}

-- the entries are the function's, the first of them at this place
abbrev agrees : List ℕ → (ℕ → ℕ) → ℕ → Bool
agrees [] f at = true
agrees (entry ∷ table) f at = eqb entry (f at) && agrees table f (suc at)

from_table : (table : List ℕ) (f : ℕ → ℕ) (at i : ℕ) → T (agrees table f at) → i < length table
    → get_or table i 0 ≡ f (at + i)
from_table [] f at i t h = absurd (omega arith)
from_table (entry ∷ table) f at zero t h =
    eqb→eq _ _ (and_l _ (agrees table f (suc at)) t) ∙ ap f (omega arith)
from_table (entry ∷ table) f at (suc i) t h =
    from_table table f (suc at) i (and_r _ (agrees table f (suc at)) t) (omega arith) ∙ ap f (omega arith)

-- so each entry of a table that agrees with a function is its value at that place
pub entry_is : (table : List ℕ) (f : ℕ → ℕ) (i : ℕ) → T (agrees table f 0) → i < length table
    → get_or table i 0 ≡ f i
entry_is table f i t h = from_table table f 0 i t h ∙ ap f (omega arith)
