-- The first minislot from some offset on at which a spot begins, or the end of the frame.
use Rattle.std.proofs.Common.{◌≡◌, ℕ, zero, suc, ◌≤◌, min, nat_le, List, [], ◌∷◌, Contains, ◌⊎◌, inl, inr, refl, sym}
use Rattle.std.proofs.Common.{ap, arith}
use Rattle.std.proofs.lemmas.Bool.{le-leb, cond_both, cases_lt}
use Rattle.std.proofs.lemmas.Bool.Decides.{nat_tests}
use Rattle.minislots.specs.declared.config.Config.{Config}
use Rattle.periodic.specs.declared.placement.Spot.{Spot}
use Rattle.map_build.specs.Plan.{next_stop}

-- it is within the frame
pub next_stop-most : (c : Config) (spots : List Spot) (offset : ℕ) → next_stop c spots offset ≤ c.frame
next_stop-most c [] offset = omega arith
next_stop-most c (s ∷ spots) offset =
    cond_both (nat_le offset s.offset) (min s.offset (next_stop c spots offset)) (next_stop c spots offset)
    (λ x. x ≤ c.frame)
    (λ t. omega (arith, next_stop-most c spots offset)) (λ t. next_stop-most c spots offset)

-- it is not before the offset
pub next_stop-least : (c : Config) (spots : List Spot) (offset : ℕ) → offset ≤ c.frame →
    offset ≤ next_stop c spots offset
next_stop-least c [] offset inside = inside
next_stop-least c (s ∷ spots) offset inside =
    let rest : offset ≤ next_stop c spots offset = next_stop-least c spots offset inside in
    cond_both (nat_le offset s.offset) (min s.offset (next_stop c spots offset)) (next_stop c spots offset)
    (λ x. offset ≤ x)
    (λ t. let le : offset ≤ s.offset = grind (arith, nat_tests) in omega arith) (λ t. rest)

-- no spot begins between the offset and it
pub next_stop-spot : (c : Config) (spots : List Spot) (offset : ℕ) (s : Spot) → Contains spots s → offset ≤ s.offset →
    next_stop c spots offset ≤ s.offset
next_stop-spot c [] offset s (k, lt, at) le = absurd (omega arith)
next_stop-spot c (t ∷ spots) offset s (zero, lt, at) le =
    let same : t.offset ≡ s.offset = ap (λ (x : Spot). x.offset) at in
    rw (le-leb offset t.offset (omega arith)) (omega arith)
next_stop-spot c (t ∷ spots) offset s (suc k, lt, at) le =
    let rest : next_stop c spots offset ≤ s.offset = next_stop-spot c spots offset s (k, omega arith, at) le in
    cond_both (nat_le offset t.offset) (min t.offset (next_stop c spots offset)) (next_stop c spots offset)
    (λ x. x ≤ s.offset) (λ t. omega arith) (λ t. rest)

-- where a spot begins that is not before the offset, or the end of the frame
abbrev pub IsStop : Config → List Spot → ℕ → ℕ → Type 0
IsStop c spots offset n = (n ≡ c.frame) ⊎ ((s : Spot) × Contains spots s × (offset ≤ s.offset) × (s.offset ≡ n))

later : (c : Config) (t : Spot) (spots : List Spot) (offset n : ℕ) → IsStop c spots offset n →
    IsStop c (t ∷ spots) offset n
later c t spots offset n (inl end) = inl end
later c t spots offset n (inr (s, (k, lt, at), from, here)) = inr (s, (suc k, omega arith, at), from, here)

min-cases : (m n : ℕ) → (min m n ≡ m) ⊎ (min m n ≡ n)
min-cases m n = elim (cases_lt m n) [
  | inl lt ↦ inl (omega arith)
  | inr ge ↦ inr (omega arith)
]

min-stop : (c : Config) (t : Spot) (spots : List Spot) (offset n : ℕ) → offset ≤ t.offset → IsStop c spots offset n →
    IsStop c (t ∷ spots) offset (min t.offset n)
min-stop c t spots offset n from is = elim (min-cases t.offset n) [
  | inl e ↦ inr (t, (zero, omega arith, refl), from, sym e)
  | inr e ↦ rw e (later c t spots offset n is)
]

-- it is one of these
pub next_stop-is : (c : Config) (spots : List Spot) (offset : ℕ) → IsStop c spots offset (next_stop c spots offset)
next_stop-is c [] offset = inl refl
next_stop-is c (s ∷ spots) offset =
    let rest : IsStop c spots offset (next_stop c spots offset) = next_stop-is c spots offset in
    cond_both (nat_le offset s.offset) (min s.offset (next_stop c spots offset)) (next_stop c spots offset)
    (IsStop c (s ∷ spots) offset)
    (λ t. let le : offset ≤ s.offset = grind (arith, nat_tests) in
    min-stop c s spots offset (next_stop c spots offset) le rest)
    (λ t. later c s spots offset (next_stop c spots offset) rest)

-- at it is no room
pub next_stop-again : (c : Config) (spots : List Spot) (offset : ℕ) →
    next_stop c spots (next_stop c spots offset) ≤ next_stop c spots offset
next_stop-again c spots offset = elim (next_stop-is c spots offset) [
  | inl end ↦ omega (arith, next_stop-most c spots (next_stop c spots offset))
  | inr is ↦ omega (arith, next_stop-spot c spots (next_stop c spots offset) is.0 is.1 (omega (arith, is.3)), is.3)
]
