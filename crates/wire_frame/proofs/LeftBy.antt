-- What a changed bit leaves in the register, for each of 56 places: never nothing, and never the same.
use Rattle.std.proofs.Common.{◌≡◌, ◌≢◌, ℕ, zero, suc, ◌-◌, ◌^◌, ◌<◌, inl, inr}
use Rattle.std.proofs.Common.{Bool, true, not, ◌&&◌, T, eqb, List, [], ◌∷◌}
use Rattle.std.proofs.Common.{subst, arith, eq-zero-or-pos}
use Rattle.std.proofs.Common.{eq-eqb}
use lib.Ieee.Fits.{and_l, and_r}
use Rattle.wire_frame.specs.declared.tables.TheConstants.{CCITT}
use Rattle.wire_frame.specs.Register.{shift, shifts}

-- what the bit at a place leaves in the register, 40 shifts later
abbrev pub left_by : ℕ → ℕ
left_by i = shifts CCITT 40 (2 ^ i)

-- the same of so many places, the last of them first
abbrev pub left_by_all : ℕ → List ℕ
left_by_all zero = []
left_by_all (suc n) = left_by n ∷ left_by_all n

-- a number is none of these
abbrev pub is_new : ℕ → List ℕ → Bool
is_new x [] = true
is_new x (y ∷ ys) = not (eqb x y) && is_new x ys

-- no number is 0, and no two are the same
abbrev pub are_apart : List ℕ → Bool
are_apart [] = true
are_apart (x ∷ xs) = not (eqb x 0) && (is_new x xs && are_apart xs)

not_same : (x y : ℕ) → T (not (eqb x y)) → x ≢ y
not_same x y t e = subst (λ b. T (not b)) (eq-eqb x y e) t

new_at : (n x j : ℕ) → T (is_new x (left_by_all n)) → j < n → x ≢ left_by j
new_at zero x j t h = absurd (omega arith)
new_at (suc n) x j t h =
    elim (eq-zero-or-pos (n - j)) [
      | inl z ↦ let e : j ≡ n = omega arith in
          rw e (not_same x (left_by n) (and_l _ (is_new x (left_by_all n)) t))
      | inr g ↦ new_at n x j (and_r _ (is_new x (left_by_all n)) t) (omega arith)
    ]

-- each place leaves something
pub not_zero_at : (n i : ℕ) → T (are_apart (left_by_all n)) → i < n → left_by i ≢ 0
not_zero_at zero i t h = absurd (omega arith)
not_zero_at (suc n) i t h =
    let rest = is_new (left_by n) (left_by_all n) && are_apart (left_by_all n) in
    elim (eq-zero-or-pos (n - i)) [
      | inl z ↦ let e : i ≡ n = omega arith in rw e (not_same (left_by n) 0 (and_l _ rest t))
      | inr g ↦ not_zero_at n i (and_r _ (are_apart (left_by_all n)) (and_r _ rest t)) (omega arith)
    ]

-- two places leave different numbers
pub apart_at : (n i j : ℕ) → T (are_apart (left_by_all n)) → i < n → j < i → left_by i ≢ left_by j
apart_at zero i j t h k = absurd (omega arith)
apart_at (suc n) i j t h k =
    let rest = is_new (left_by n) (left_by_all n) && are_apart (left_by_all n) in
    elim (eq-zero-or-pos (n - i)) [
      | inl z ↦ let e : i ≡ n = omega arith in
          rw e (new_at n (left_by n) j (and_l _ (are_apart (left_by_all n)) (and_r _ rest t)) (omega arith))
      | inr g ↦ apart_at n i j (and_r _ (are_apart (left_by_all n)) (and_r _ rest t)) (omega arith) k
    ]

-- so it is of all 56 places, by computing
pub all_apart : T (are_apart (left_by_all 56))
unfolding shifts shift
all_apart = tt
