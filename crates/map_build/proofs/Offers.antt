-- How many opportunities a plan has: each that waits is met at most once.
use Rattle.std.proofs.Common.{◌≡◌, ℕ, zero, suc, ◌+◌, ◌<◌, ◌≤◌, Bool, true, false, ◌==◌, List, [], ◌∷◌}
use Rattle.std.proofs.Common.{◌⊎◌, inl, inr, ◌++◌, length, Contains, Option, None, Some, if◌then◌else◌, refl, ap}
use Rattle.std.proofs.Common.{◌∙◌, arith}
use Rattle.std.specs.List.{slice_get}
use Rattle.std.proofs.lemmas.Bool.Decides.{nat_tests}
use Rattle.sched_calls.specs.declared.opportunity.Opportunity.{Opportunity}
use Rattle.map_build.specs.declared.purpose.Allocation.{Allocation}
use Rattle.map_build.specs.Purpose.{place_of}
use Rattle.map_build.specs.Plan.{IsMetIn}
use Rattle.map_build.proofs.Clear.{contains-later}
use Rattle.std.proofs.lemmas.List.Elements.{Contains-push}

-- whether it is this place
abbrev pub is_at : ℕ → Option ℕ → Bool
is_at n None = false
is_at n (Some m) = n == m

-- whether the opportunity at this place is among these allocations
abbrev pub is_met : List Allocation → ℕ → Bool
is_met [] n = false
is_met (a ∷ plan) n = if is_at n (place_of a.purpose) then true else is_met plan n

at-place : (n : ℕ) (o : Option ℕ) → is_at n o ≡ true → o ≡ Some n
at-place n None is = absurd (cc)
at-place n (Some m) is = let same : m ≡ n = grind (arith, nat_tests) in ap Some same

met-cond : (b : Bool) (n : ℕ) (a : Allocation) (plan : List Allocation) → is_at n (place_of a.purpose) ≡ b →
    (is_met plan n ≡ true → IsMetIn plan n) → (if b then true else is_met plan n) ≡ true → IsMetIn (a ∷ plan) n
met-cond true n a plan here rest is = (a, (zero, omega arith, refl), at-place n (place_of a.purpose) here)
met-cond false n a plan here rest is =
    let more = rest is in (more.0, contains-later plan a more.0 more.1, more.2)

-- where the test holds it is met
pub is_met-met : (plan : List Allocation) (n : ℕ) → is_met plan n ≡ true → IsMetIn plan n
is_met-met [] n is = absurd (cc)
is_met-met (a ∷ plan) n is =
    met-cond (is_at n (place_of a.purpose)) n a plan refl (λ rest. is_met-met plan n rest) is

met-here-cond : (b d : Bool) → b ≡ true → (if b then true else d) ≡ true
met-here-cond true d is = refl
met-here-cond false d is = absurd (cc)

met-later-cond : (b d : Bool) → d ≡ true → (if b then true else d) ≡ true
met-later-cond true d is = refl
met-later-cond false d is = is

at-here : (n : ℕ) → is_at n (Some n) ≡ true
at-here n = grind (arith, nat_tests)

-- where it is met the test holds
pub met-is_met : (plan : List Allocation) (n : ℕ) → IsMetIn plan n → is_met plan n ≡ true
met-is_met [] n (b, (k, lt, at), is) = absurd (omega arith)
met-is_met (a ∷ plan) n (b, (zero, lt, at), is) =
    met-here-cond (is_at n (place_of a.purpose)) (is_met plan n)
    (ap (λ (x : Allocation). is_at n (place_of x.purpose)) at ∙ ap (is_at n) is ∙ at-here n)
met-is_met (a ∷ plan) n (b, (suc k, lt, at), is) =
    met-later-cond (is_at n (place_of a.purpose)) (is_met plan n) (met-is_met plan n (b, (k, omega arith, at), is))

unmet-bool : (b : Bool) → (b ≡ true → ⊥) → b ≡ false
unmet-bool true never = absurd (never refl)
unmet-bool false never = refl

-- where it is not met the test fails
pub unmet-test : (plan : List Allocation) (n : ℕ) → (IsMetIn plan n → ⊥) → is_met plan n ≡ false
unmet-test plan n never = unmet-bool (is_met plan n) (λ is. never (is_met-met plan n is))

push-cond : (b d e : Bool) →
    (if b then true else (if d then true else e)) ≡ (if (if b then true else d) then true else e)
push-cond true d e = refl
push-cond false d e = refl

-- with one allocation more it is met, or is that one
pub is_met-push : (plan : List Allocation) (a : Allocation) (n : ℕ) →
    is_met (plan ++ a ∷ []) n ≡ (if is_met plan n then true else is_at n (place_of a.purpose))
is_met-push [] a n = last (is_at n (place_of a.purpose))
  where
    last : (b : Bool) → (if b then true else false) ≡ b
    last true = refl
    last false = refl
is_met-push (x ∷ plan) a n =
    ap (λ b. if is_at n (place_of x.purpose) then true else b) (is_met-push plan a n)
    ∙ push-cond (is_at n (place_of x.purpose)) (is_met plan n) (is_at n (place_of a.purpose))

-- how many places from the first up to the second are not met
abbrev pub unmet : List Allocation → ℕ → ℕ
unmet plan zero = 0
unmet plan (suc n) = (if is_met plan n then 0 else 1) + unmet plan n

-- at most all
pub unmet-most : (plan : List Allocation) (n : ℕ) → unmet plan n ≤ n
unmet-most plan zero = omega arith
unmet-most plan (suc n) = omega (arith, one (is_met plan n), unmet-most plan n)
  where
    one : (b : Bool) → (if b then 0 else 1) ≤ 1
    one true = omega arith
    one false = omega arith

fewer-one : (b d : Bool) → (if (if b then true else d) then 0 else 1) ≤ (if b then 0 else 1)
fewer-one true d = omega arith
fewer-one false true = omega arith
fewer-one false false = omega arith

-- with an allocation more no more are
pub unmet-push : (plan : List Allocation) (a : Allocation) (n : ℕ) → unmet (plan ++ a ∷ []) n ≤ unmet plan n
unmet-push plan a zero = omega arith
unmet-push plan a (suc n) = rw (is_met-push plan a n)
    (omega (arith, fewer-one (is_met plan n) (is_at n (place_of a.purpose)), unmet-push plan a n))

same-place : (n : ℕ) → (n == n) ≡ true
same-place n = grind (arith, nat_tests)

unmet-here : (plan : List Allocation) (a : Allocation) (m n : ℕ) → place_of a.purpose ≡ Some m → m ≡ n →
    is_met plan m ≡ false → unmet (plan ++ a ∷ []) (suc n) + 1 ≤ unmet plan (suc n)
unmet-here plan a m n is same never =
    let fresh : is_met plan n ≡ false = rw same at never in
    let there : is_at n (place_of a.purpose) ≡ true = ap (is_at n) is ∙ ap (λ k. n == k) same ∙ same-place n in
    rw (is_met-push plan a n, fresh, there) (omega (arith, unmet-push plan a n))

unmet-below : (m n : ℕ) → m < suc n → (m == n) ≡ false → m < n
unmet-below m n lt differs = grind (arith, nat_tests)

fewer-cond : (b : Bool) (plan : List Allocation) (a : Allocation) (m n : ℕ) → (m == n) ≡ b →
    place_of a.purpose ≡ Some m → is_met plan m ≡ false → m < suc n →
    (m < n → unmet (plan ++ a ∷ []) n + 1 ≤ unmet plan n) →
    unmet (plan ++ a ∷ []) (suc n) + 1 ≤ unmet plan (suc n)
fewer-cond true plan a m n test is never lt rest =
    let same : m ≡ n = grind (arith, nat_tests) in unmet-here plan a m n is same never
fewer-cond false plan a m n test is never lt rest = rw (is_met-push plan a n)
    (omega (arith, fewer-one (is_met plan n) (is_at n (place_of a.purpose)), rest (unmet-below m n lt test)))

-- with the opportunity of a place that was not met one is fewer
pub unmet-fewer : (plan : List Allocation) (a : Allocation) (m n : ℕ) → place_of a.purpose ≡ Some m →
    is_met plan m ≡ false → m < n → unmet (plan ++ a ∷ []) n + 1 ≤ unmet plan n
unmet-fewer plan a m zero is never lt = absurd (omega arith)
unmet-fewer plan a m (suc n) is never lt =
    fewer-cond (m == n) plan a m n refl is never lt (λ below. unmet-fewer plan a m n is never below)

-- a place in which something waits is below their number
pub place-below : (waiting : List Opportunity) (place : ℕ) (o : Opportunity) → slice_get waiting place ≡ Some o →
    place < length waiting
place-below [] place o is = absurd (cc)
place-below (w ∷ waiting) zero o is = omega arith
place-below (w ∷ waiting) (suc place) o is = omega (arith, place-below waiting place o is)

only-it : (a b : Allocation) (n : ℕ) → Contains (a ∷ []) b → place_of b.purpose ≡ Some n → place_of a.purpose ≡ Some n
only-it a b n (zero, lt, at) is = ap (λ (x : Allocation). place_of x.purpose) at ∙ is
only-it a b n (suc k, lt, at) is = absurd (omega arith)

-- what one allocation meets is the opportunity that it is
pub met-only : (a : Allocation) (n : ℕ) → IsMetIn (a ∷ []) n → place_of a.purpose ≡ Some n
met-only a n (b, has, is) = only-it a b n has is

-- what the last allocation meets a plan meets
pub met-here : (plan : List Allocation) (a : Allocation) (n : ℕ) → IsMetIn (a ∷ []) n → IsMetIn (plan ++ a ∷ []) n
met-here plan a n (b, has, is) = (a, Contains-push plan a, only-it a b n has is)

met-later : (x : Allocation) (plan : List Allocation) (n : ℕ) → IsMetIn plan n → IsMetIn (x ∷ plan) n
met-later x plan n (b, has, is) = (b, contains-later plan x b has, is)

-- what a plan meets the last allocation does, or those before it
pub met-push : (plan : List Allocation) (a : Allocation) (n : ℕ) → IsMetIn (plan ++ a ∷ []) n →
    IsMetIn plan n ⊎ IsMetIn (a ∷ []) n
met-push [] a n is = inr is
met-push (x ∷ plan) a n (b, (zero, lt, at), is) = inl (b, (zero, omega arith, at), is)
met-push (x ∷ plan) a n (b, (suc k, lt, at), is) = elim (met-push plan a n (b, (k, omega arith, at), is)) [
  | inl before ↦ inl (met-later x plan n before)
  | inr it ↦ inr it
]
