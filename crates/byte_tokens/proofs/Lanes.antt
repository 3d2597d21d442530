-- Blocks of bytes that are compared lane by lane.
use Rattle.std.proofs.Common.{◌≡◌, ℕ, ◌+◌, ◌%◌, ◌^◌, ◌<◌, ◌≤◌, Bool, true, false, not, cond, eqb, List, [], ◌∷◌}
use Rattle.std.proofs.Common.{◌-◌, map, length, refl, sym, ap₂, ◌∙◌, arith, eqb-true, inl, inr, subst}
use Rattle.std.proofs.lemmas.Bool.{cases_lt}
use Rattle.std.specs.Prelude.{◌⊎◌}
use Rattle.std.proofs.lemmas.Simd.{mask_l-mod, length-zip2}
use Rattle.std.proofs.lemmas.List.{length-map}
use lib.Lanes.{zip2, mask_l, top}

-- a lane that is not 0 where two bytes differ
abbrev pub differs : ℕ → ℕ → ℕ
differs a b = cond (not (eqb a b)) 255 0

one_same : (x y : ℕ) → ◌≡◌ {A = ℕ} (cond (top 7 (differs x y)) 1 0) 0 → x ≡ y
one_same x y none = go (eqb x y) refl none
  where
    go : (t : Bool) → eqb x y ≡ t → ◌≡◌ {A = ℕ} (cond (top 7 (cond (not t) 255 0)) 1 0) 0 → x ≡ y
    go true e q = eqb-true _ _ e
    go false e q = absurd (omega arith)

none_differ : (xs ys : List ℕ) → length xs ≡ length ys → mask_l (map (top 7) (zip2 differs xs ys)) ≡ 0 → xs ≡ ys
none_differ [] [] e none = refl
none_differ [] (y ∷ ys) e none = absurd (omega arith)
none_differ (x ∷ xs) [] e none = absurd (omega arith)
none_differ (x ∷ xs) (y ∷ ys) e none =
    ap₂ (λ a l. a ∷ l) (one_same x y (omega arith)) (none_differ xs ys (omega arith) (omega arith))

-- blocks of which no lane differs are the same
pub blocks_same : (xs ys : List ℕ) → length xs ≡ 16 → length ys ≡ 16
    → eqb (mask_l (map (top 7) (zip2 differs xs ys)) % 2 ^ 64) 0 ≡ true → xs ≡ ys
blocks_same xs ys p q none =
    let few : length (map (top 7) (zip2 differs xs ys)) ≤ 64 =
    omega (arith, length-map (zip2 differs xs ys) (top 7), length-zip2 differs xs ys (p ∙ sym q)) in
    none_differ xs ys (p ∙ sym q)
    (sym (mask_l-mod (map (top 7) (zip2 differs xs ys)) 64 few) ∙ eqb-true _ _ none)

-- two blocks, which may overlap, cover 16 to 32
pub two_cover : (P : ℕ → Type 0) (n k : ℕ) → k < n → 16 ≤ n → n ≤ 32 → ((k : ℕ) → k < 16 → P k)
    → ((k : ℕ) → k < 16 → P (n - 16 + k)) → P k
two_cover P n k within many few front back = go (cases_lt k 16)
  where
    go : (k < 16) ⊎ (16 ≤ k) → P k
    go (inl low) = front k low
    go (inr high) =
        let place : n - 16 + (k - (n - 16)) ≡ k = omega arith in
        subst P place (back (k - (n - 16)) (omega arith))
