-- The digits of hexadecimal, computed.
use Rattle.std.proofs.Common.{◌≡◌, ℕ, zero, suc, ◌+◌, ◌-◌, ◌<◌, ◌≤◌, ◌==◌, ◌&&◌, Bool, true}
use Rattle.std.proofs.Common.{slice_index, refl, arith}
use Rattle.std.proofs.Common.{inl, inr}
use Rattle.std.specs.Str.{IsAscii}
use Rattle.std.proofs.lemmas.List.{get_or_past}
use Rattle.std.proofs.lemmas.Bool.{and_parts, cases_lt, eqb-true}
use Rattle.hex.specs.Hex.{lower_digits}

-- the test of the first n digits of those from a place on, which computes
abbrev are_from : ℕ → ℕ → ℕ → Bool
are_from from first zero = true
are_from from first (suc n) = (slice_index lower_digits (from + n) == first + n) && are_from from first n

-- a digit that passed the test
are_from-at : (from first n k : ℕ) → are_from from first n ≡ true → k < n
    → slice_index lower_digits (from + k) ≡ first + k
are_from-at from first zero k h lt = absurd (omega arith)
are_from-at from first (suc n) k h lt =
    let parts = and_parts (slice_index lower_digits (from + n) == first + n) (are_from from first n) h in
    elim (cases_lt k n) [
      | inl below ↦ are_from-at from first n k parts.1 below
      | inr top ↦
          let e : k ≡ n = omega arith in
          rw e (eqb-true (slice_index lower_digits (from + n)) (first + n) parts.0)
    ]

-- the digit of a number below 10
pub digit_below : (d : ℕ) → d < 10 → slice_index lower_digits d ≡ d + 48
digit_below d lt =
    let z : 0 + d ≡ d = omega arith in
    let e : 48 + d ≡ d + 48 = omega arith in
    let found = are_from-at 0 48 10 d refl lt in
    rw (z, e) at found

-- the digit of a number from 10 on
pub digit_above : (d : ℕ) → 10 ≤ d → d < 16 → slice_index lower_digits d ≡ d + 87
digit_above d ge lt =
    let e : 10 + (d - 10) ≡ d = omega arith in
    let f : 97 + (d - 10) ≡ d + 87 = omega arith in
    let found = are_from-at 10 97 6 (d - 10) refl (omega arith) in
    rw (e, f) at found

-- all sixteen digits are ASCII
pub IsAscii-lower_digits : IsAscii lower_digits
IsAscii-lower_digits i =
    elim (cases_lt i 10) [
      | inl low ↦ omega (arith, digit_below i low)
      | inr high ↦ elim (cases_lt i 16) [
        | inl below ↦ omega (arith, digit_above i high below)
        | inr past ↦ omega (arith, get_or_past lower_digits i 0 past)
      ]
    ]
