-- The nominal times of a placed flow: in which frames it has them, and from which on.
use Rattle.std.proofs.Common.{◌≡◌, ℕ, zero, suc, ◌+◌, ◌*◌, ◌/◌, ◌%◌, ◌<◌, ◌≤◌, Bool, true, false, not, ◌&&◌}
use Rattle.std.proofs.Common.{if◌then◌else◌, ◌==◌, List, [], ◌∷◌, find, None, Some, Contains, refl, inl, inr}
use Rattle.std.proofs.Common.{mul_comm, mul-add, arith}
use Rattle.std.specs.List.{AllByRecursion}
use Rattle.std.proofs.Math.Nat.{mul-le-mul_left, mod-mod_of_dvd}
use Rattle.std.proofs.lemmas.Nat.Gcd.{dvd_of_mod-eq-zero}
use Rattle.std.proofs.lemmas.Bool.{cases_lt, cases_eq, ne_eqb}
use Rattle.std.proofs.lemmas.Bool.Decides.{nat_tests}
use Rattle.minislots.specs.declared.config.Config.{Config}
use Rattle.sched_calls.specs.declared.spec.FlowSpec.{FlowSpec}
use Rattle.sched_calls.specs.FlowSpec.{is_periodic, interval_frames}
use Rattle.sched_calls.specs.FlowSpec.{has_fault, faults, first_fault}
use Rattle.sched_calls.specs.declared.placement.Placement.{Placement}
use Rattle.periodic.specs.Placement.{phase_of, starts_in}

-- of numbers that leave the same on division the greater is greater by the divisor
pub same_rest : (f m n : ℕ) → m % f ≡ n % f → 0 < f → m < n → m + f ≤ n
same_rest f m n same some less = elim (cases_lt (m / f) (n / f)) [
  | inl lower ↦ (let next : m / f + 1 ≤ n / f = omega arith in
      omega (arith, mul-le-mul_left {m = m / f + 1} {n = n / f} f next, mul-add f (m / f) 1))
  | inr upper ↦ absurd (omega (arith, mul-le-mul_left {m = n / f} {n = m / f} f upper))
]

-- a factor of what is between two numbers is not 0
some_factor : (f w low high : ℕ) → low ≤ high → high < low + f * w → 0 < f
some_factor zero w low high le less = absurd (omega arith)
some_factor (suc f) w low high le less = omega arith

ahead_false : (w f k n start reference since : ℕ) → k + f ≤ n → w * k ≡ start → w * n ≤ reference → since ≤ start
    → reference < since + f * w → ⊥
ahead_false w f k n start reference since ahead starts refers le high =
    omega (arith, mul-le-mul_left {m = k + f} {n = n} w ahead, mul-add w k f, mul_comm f w)

-- in the frames after the search for a reference no nominal time is before it: w minislots a frame, f frames a time
pub reference_past : (w f reference since start : ℕ) → 0 < w → start % w ≡ 0 → since ≤ start → since ≤ reference
    → reference < since + f * w
    → start / w % f ≡ reference / w % f → reference ≤ start + reference % w
reference_past w f reference since start some aligned le low high nominal =
    elim (cases_lt (start / w) (reference / w)) [
      | inl ahead ↦ absurd (ahead_false w f (start / w) (reference / w) start reference since
          (same_rest f (start / w) (reference / w) nominal (some_factor f w since reference low high) ahead)
          (omega arith) (omega arith) le high)
      | inr behind ↦ omega (arith, mul-le-mul_left {m = reference / w} {n = start / w} w behind)
    ]

unfound_if : {X : Type 0} (test : X → Bool) (x : X) (xs : List X) (b : Bool) → test x ≡ b
    → (if b then Some x else find test xs) ≡ None
    → (test x ≡ false) × (find test xs ≡ None)
unfound_if test x xs true is none = absurd (cc)
unfound_if test x xs false is none = (is, none)

-- where nothing is found no member passes
unfound : {X : Type 0} (test : X → Bool) (xs : List X) → find test xs ≡ None → AllByRecursion (λ x. test x ≡ false) xs
unfound test [] none = tt
unfound test (x ∷ xs) none = let first = unfound_if test x xs (test x) refl none in (first.0, unfound test xs first.1)

no_faults : (c : Config) (spec : FlowSpec) → first_fault c spec ≡ None
    → AllByRecursion (λ fault. has_fault c spec fault ≡ false) faults
unfolding first_fault
no_faults c spec none = unfound (has_fault c spec) faults none

divides_if : (periodic : Bool) (n : ℕ) → (periodic && not (n == 0)) ≡ false → periodic ≡ true → n ≡ 0
divides_if false n test is = absurd (cc)
divides_if true n test is = grind (arith, nat_tests)

-- the interval of a faultless periodic flow divides the cycle
pub interval_divides : (c : Config) (spec : FlowSpec) → first_fault c spec ≡ None → is_periodic spec ≡ true
    → c.cycle % interval_frames c spec ≡ 0
interval_divides c spec none periodic = divides_if (is_periodic spec) (c.cycle % interval_frames c spec)
    (no_faults c spec none).1.1.1.0 periodic

-- a frame's place in the cycle is as far in the interval as the frame
pub place_rest : (k cycle interval : ℕ) → cycle % interval ≡ 0 → k % cycle % interval ≡ k % interval
place_rest k cycle interval whole = mod-mod_of_dvd interval k (dvd_of_mod-eq-zero interval whole)

no-member : {X : Type 0} (x : X) → Contains [] x → ⊥
no-member x (k, within, at) = absurd (omega arith)

-- a frame in which a placement has a start is one of its nominal frames
pub nominal-start : (c : Config) (spec : FlowSpec) (p : Placement) (place start : ℕ)
    → Contains (starts_in c spec p place) start → place % interval_frames c spec ≡ phase_of c spec p
nominal-start c spec p place start member =
    elim (cases_eq (place % interval_frames c spec) (phase_of c spec p)) [
      | inl nominal ↦ nominal
      | inr differ ↦ (
          let none : Contains [] start =
          rw (ne_eqb (place % interval_frames c spec) (phase_of c spec p) differ) at member in
          absurd (no-member start none))
    ]
