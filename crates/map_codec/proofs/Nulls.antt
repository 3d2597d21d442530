-- How many Nulls a front has, and what follows where there is one.
use Rattle.std.proofs.Common.{◌≡◌, ℕ, zero, suc, ◌+◌, ◌<◌, ◌≤◌, true, false, cond, eqb}
use Rattle.std.proofs.Common.{List, ◌++◌, length, take, drop, ap, inl, inr, add-one, arith}
use Rattle.std.proofs.lemmas.Bool.{cases_Bool, and_cases, eqb-true, eq-eqb, ne_eqb}
use Rattle.std.proofs.lemmas.Bool.{ltb-false, le-ltb, and_left, and_right, both_ways}
use Rattle.std.proofs.lemmas.List.{take-append-drop, take-take, take_all}
use Rattle.std.proofs.lemmas.List.Sums.{sum_by-append, count_by_more_yes, count_by_more_no}
use Rattle.map_codec.specs.declared.element.Element.{Element}
use Rattle.map_codec.specs.Element.{is_null, nulls, element_at, no_element, Ascends}
use Rattle.map_codec.specs.DecodeFault.{descends_at, repeats_null_at}

-- a front has at most the Nulls of the whole
pub nulls-take-le : (es : List Element) (i : ℕ) → nulls (take i es) ≤ nulls es
nulls-take-le es i =
    let parts : nulls (take i es ++ drop i es) ≡ nulls (take i es) + nulls (drop i es) =
    sum_by-append (λ x. cond (is_null x) 1 0) (take i es) (drop i es) in
    let whole : nulls (take i es ++ drop i es) ≡ nulls es = ap nulls (take-append-drop i es) in
    omega arith

-- and of a longer front
pub nulls-take-mono : (es : List Element) (i j : ℕ) → i ≤ j → nulls (take i es) ≤ nulls (take j es)
nulls-take-mono es i j le =
    let shorter : nulls (take i (take j es)) ≡ nulls (take i es) = ap nulls (take-take i j es le) in
    omega (arith, nulls-take-le (take j es) i)

-- one element more, a Null
pub nulls_more_yes : (es : List Element) (i : ℕ) → i < length es → is_null (element_at es i) ≡ true
    → nulls (take (i + 1) es) ≡ nulls (take i es) + 1
nulls_more_yes es i lt null = count_by_more_yes is_null es i no_element lt null

-- one element more, no Null
pub nulls_more_no : (es : List Element) (i : ℕ) → i < length es → is_null (element_at es i) ≡ false
    → nulls (take (i + 1) es) ≡ nulls (take i es)
nulls_more_no es i lt other = count_by_more_no is_null es i no_element lt other

-- past a Null no offset counts as descending
pub descends_at-past : (es : List Element) (i k : ℕ) → i < length es → is_null (element_at es i) ≡ true
    → i < k → descends_at es k ≡ false
descends_at-past es i k lt null past =
    let within = nulls-take-mono es (i + 1) k (omega arith) in
    let some : 0 < nulls (take k es) = omega (arith, nulls_more_yes es i lt null, within) in
    and_left (eqb (nulls (take k es)) 0) _ (ne_eqb _ _ (λ e. absurd (omega arith)))

-- where no offset counts as descending, they ascend
pub ascends_from_none : (es : List Element) → ((i : ℕ) → i < length es → descends_at es i ≡ false)
    → Ascends es
ascends_from_none es none i lt no_null =
    elim (and_cases _ _ (none (suc i) lt)) [
      | inl other ↦ absurd (both_ways _ other (eq-eqb _ _ no_null))
      | inr le ↦ ltb-false _ _ le
    ]

-- where they ascend, none counts as descending
pub descends_at-none : (es : List Element) → Ascends es → (i : ℕ) → i < length es → descends_at es i ≡ false
descends_at-none es ascends zero lt = and_right (eqb (nulls (take 0 es)) 0) _ (le-ltb _ 0 (omega arith))
descends_at-none es ascends (suc i) lt =
    let test = eqb (nulls (take (suc i) es)) 0 in
    elim (cases_Bool test) [
      | inl no_null ↦ and_right test _ (le-ltb _ _ (ascends i lt (eqb-true _ _ no_null)))
      | inr other ↦ and_left test _ other
    ]

-- where there is one Null, none repeats it
pub repeats_null_at-none : (es : List Element) → nulls es ≡ 1 → (i : ℕ) → i < length es
    → repeats_null_at es i ≡ false
repeats_null_at-none es one i lt =
    elim (cases_Bool (is_null (element_at es i))) [
      | inl null ↦
          let none : nulls (take i es) ≤ 0 =
          omega (arith, one, nulls_more_yes es i lt null, nulls-take-le es (i + 1)) in
          and_right (is_null (element_at es i)) _ (le-ltb 0 (nulls (take i es)) none)
      | inr other ↦ and_left (is_null (element_at es i)) _ other
    ]

-- where none repeats a Null, a front has at most one
pub nulls-take-le-one : (es : List Element) → ((i : ℕ) → i < length es → repeats_null_at es i ≡ false)
    → (i : ℕ) → i ≤ length es → nulls (take i es) ≤ 1
nulls-take-le-one es none zero le = omega arith
nulls-take-le-one es none (suc i) le =
    let lt : i < length es = omega arith in
    let before = nulls-take-le-one es none i (omega arith) in
    let step : nulls (take (i + 1) es) ≤ 1 =
    elim (cases_Bool (is_null (element_at es i))) [
      | inl null ↦
          elim (and_cases _ _ (none i lt)) [
            | inl other ↦ absurd (both_ways _ other null)
            | inr few ↦ omega (arith, nulls_more_yes es i lt null, ltb-false 0 (nulls (take i es)) few)
          ]
      | inr other ↦ omega (arith, nulls_more_no es i lt other, before)
    ]
    in
    rw add-one at step

-- and so has the whole, exactly one where there is any
pub nulls_one : (es : List Element) → ((i : ℕ) → i < length es → repeats_null_at es i ≡ false)
    → (nulls es ≡ 0 → ⊥) → nulls es ≡ 1
nulls_one es none some =
    let all : nulls (take (length es) es) ≡ nulls es = ap nulls (take_all (length es) es (omega arith)) in
    omega (arith, nulls-take-le-one es none (length es) (omega arith), some)
