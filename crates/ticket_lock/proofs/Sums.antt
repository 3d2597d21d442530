-- Sums over a list that is read by its places, once one member has changed.
use Rattle.std.proofs.Common.{◌≡◌, ◌≢◌, ℕ, zero, suc, ◌+◌, ◌<◌, ◌≤◌, List, [], ◌∷◌, set, refl, sym, ap, arith, ⊎_elim}
use Rattle.std.proofs.lemmas.Bool.{cases_lt}
use Rattle.std.specs.List.{sum_by}
use Rattle.std.proofs.lemmas.List.Sums.{sum_by-cons}
use mathlib.Core.Option.{some, some-injective, some-ne-none}
use lib.ListN.{get_elem?}

-- the new member stands where the old one did
pub here_set : {X : Type 0} (xs : List X) (i : ℕ) (x y : X) → get_elem? xs i ≡ some x
    → get_elem? (set xs i y) i ≡ some y
here_set [] i x y e = absurd (some-ne-none x (sym e))
here_set (z ∷ xs) zero x y e = refl
here_set (z ∷ xs) (suc i) x y e = here_set xs i x y e

module _ {X : Type 0} (f : X → ℕ) where
  -- a sum loses the old member's term, and gains the new one's
  pub sum_by-replaced : (xs : List X) (i : ℕ) (x y : X) → get_elem? xs i ≡ some x
      → sum_by f (set xs i y) + f x ≡ sum_by f xs + f y
  sum_by-replaced [] i x y e = absurd (some-ne-none x (sym e))
  sum_by-replaced (z ∷ xs) zero x y e = let same : f z ≡ f x = ap f (some-injective z x e) in
      omega (arith, sum_by-cons f y xs, sum_by-cons f z xs)
  sum_by-replaced (z ∷ xs) (suc i) x y e =
      let rest = sum_by-replaced xs i x y e in omega (arith, sum_by-cons f z (set xs i y), sum_by-cons f z xs)

  -- a member's term is at most the sum
  pub sum_by-member : (xs : List X) (i : ℕ) (x : X) → get_elem? xs i ≡ some x → f x ≤ sum_by f xs
  sum_by-member [] i x e = absurd (some-ne-none x (sym e))
  sum_by-member (z ∷ xs) zero x e = let same : f z ≡ f x = ap f (some-injective z x e) in
      omega (arith, sum_by-cons f z xs)
  sum_by-member (z ∷ xs) (suc i) x e = let rest = sum_by-member xs i x e in omega (arith, sum_by-cons f z xs)

  -- two members' terms are at most the sum
  pub sum_by-pair : (xs : List X) (i j : ℕ) (x y : X) → get_elem? xs i ≡ some x → get_elem? xs j ≡ some y → j ≢ i
      → f x + f y ≤ sum_by f xs
  sum_by-pair [] i j x y e d n = absurd (some-ne-none x (sym e))
  sum_by-pair (z ∷ xs) zero zero x y e d n = absurd (n refl)
  sum_by-pair (z ∷ xs) zero (suc j) x y e d n =
      let same : f z ≡ f x = ap f (some-injective z x e) in let rest = sum_by-member xs j y d in
      omega (arith, sum_by-cons f z xs)
  sum_by-pair (z ∷ xs) (suc i) zero x y e d n =
      let same : f z ≡ f y = ap f (some-injective z y d) in let rest = sum_by-member xs i x e in
      omega (arith, sum_by-cons f z xs)
  sum_by-pair (z ∷ xs) (suc i) (suc j) x y e d n =
      let rest = sum_by-pair xs i j x y e d (λ same. n (ap suc same)) in omega (arith, sum_by-cons f z xs)

  -- some member has a part in a sum above 0
  pub sum_by-some : (xs : List X) → 0 < sum_by f xs → (i : ℕ) × (x : X) × (get_elem? xs i ≡ some x) × (0 < f x)
  sum_by-some [] has = absurd (omega (arith, has))
  sum_by-some (x ∷ xs) has = ⊎_elim
      (λ (here : 0 < f x). (zero, x, refl, here))
      (λ (other : f x ≤ 0). let rest = sum_by-some xs (omega (arith, sum_by-cons f x xs)) in
      (suc rest.0, rest.1, rest.2, rest.3))
      (cases_lt 0 (f x))

  module _ (g : X → ℕ) (none : (x : X) → f x ≡ 0 → g x ≡ 0) where
    -- terms that are 0 where others are have the sum 0 where those do
    sum_by-none : (xs : List X) → sum_by f xs ≡ 0 → sum_by g xs ≡ 0
    sum_by-none [] all = refl
    sum_by-none (x ∷ xs) all =
        let here = none x (omega (arith, sum_by-cons f x xs)) in
        let rest = sum_by-none xs (omega (arith, sum_by-cons f x xs)) in omega (arith, sum_by-cons g x xs)

    -- where one member has the whole sum, it has that of such terms too
    pub sum_by-whole : (xs : List X) (i : ℕ) (x : X) → get_elem? xs i ≡ some x → sum_by f xs ≡ f x → sum_by g xs ≡ g x
    sum_by-whole [] i x e all = absurd (some-ne-none x (sym e))
    sum_by-whole (z ∷ xs) zero x e all =
        let same : f z ≡ f x = ap f (some-injective z x e) in
        let also : g z ≡ g x = ap g (some-injective z x e) in
        let rest = sum_by-none xs (omega (arith, sum_by-cons f z xs)) in omega (arith, sum_by-cons g z xs)
    sum_by-whole (z ∷ xs) (suc i) x e all =
        let most = sum_by-member xs i x e in
        let here = none z (omega (arith, sum_by-cons f z xs)) in
        let rest = sum_by-whole xs i x e (omega (arith, sum_by-cons f z xs)) in omega (arith, sum_by-cons g z xs)
