-- Lists of which so many at the front do not count.
use Rattle.std.proofs.Common.{◌≡◌, ◌∙◌, ap, ℕ, zero, suc, ◌+◌, ◌≤◌, List, [], ◌∷◌, drop, insert, remove, length, arith}

-- one is put in behind the front
pub drop-insert : {X : Type 0} (front : ℕ) (xs : List X) (i : ℕ) (y : X) → front ≤ length xs
    → drop front (insert xs (front + i) y) ≡ insert (drop front xs) i y
drop-insert zero xs i y le = let same : zero + i ≡ i = omega arith in ap (λ k. insert xs k y) same
drop-insert (suc f) [] i y le = absurd (omega (arith, le))
drop-insert (suc f) (x ∷ xs) i y le =
    let same : suc f + i ≡ suc (f + i) = omega arith in
    ap (λ k. drop (suc f) (insert (x ∷ xs) k y)) same ∙ drop-insert f xs i y (omega (arith, le))

-- one is taken out behind the front
pub drop-remove : {X : Type 0} (front : ℕ) (xs : List X) (i : ℕ) → front ≤ length xs
    → drop front (remove xs (front + i)) ≡ remove (drop front xs) i
drop-remove zero xs i le = let same : zero + i ≡ i = omega arith in ap (remove xs) same
drop-remove (suc f) [] i le = absurd (omega (arith, le))
drop-remove (suc f) (x ∷ xs) i le =
    let same : suc f + i ≡ suc (f + i) = omega arith in
    ap (λ k. drop (suc f) (remove (x ∷ xs) k)) same ∙ drop-remove f xs i (omega (arith, le))
