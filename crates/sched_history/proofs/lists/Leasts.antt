-- The least of some numbers.
use Rattle.std.proofs.Common.{◌≡◌, ℕ, ◌+◌, ◌<◌, min, List, [], ◌∷◌, ◌++◌, length, take, refl, arith, get_or}
use Rattle.std.proofs.lemmas.List.{take_more}
use Rattle.sched_history.specs.Time.{least}

-- the least of some numbers and one more
pub least_push : (x : ℕ) (xs : List ℕ) (y : ℕ) → least (x ∷ xs ++ y ∷ []) ≡ min (least (x ∷ xs)) y
least_push x [] y = refl
least_push x (z ∷ xs) y = let rest : least (z ∷ xs ++ y ∷ []) ≡ min (least (z ∷ xs)) y = least_push z xs y in
    omega arith

-- the first number again changes nothing
pub least_twice : (x : ℕ) (xs : List ℕ) → least (x ∷ x ∷ xs) ≡ least (x ∷ xs)
least_twice x [] = omega arith
least_twice x (y ∷ xs) = omega arith

-- the least of the numbers up to one of them
pub least_more : (x : ℕ) (xs : List ℕ) (i : ℕ) → i < length xs
    → least (x ∷ take (i + 1) xs) ≡ min (least (x ∷ take i xs)) (get_or xs i 0)
least_more x xs i below = rw (take_more xs i 0 below) (least_push x (take i xs) (get_or xs i 0))
