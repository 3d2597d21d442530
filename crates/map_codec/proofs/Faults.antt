-- Which fault a list of elements has.
use Rattle.std.proofs.Common.{◌≡◌, ℕ, ◌<◌, ◌≤◌, true, false, eqb, List, ◌∷◌, length}
use Rattle.std.proofs.Common.{take, Some, None, refl, ap, inl, inr, arith}
use Rattle.std.specs.Option.{option_map}
use Rattle.std.proofs.lemmas.Bool.{cases_order, and_from, eqb-false, eq-eqb}
use Rattle.std.proofs.lemmas.Bool.{ne_eqb, lt-ltb, le-ltb, and_right}
use Rattle.map_codec.specs.declared.element.Element.{Element}
use Rattle.map_codec.specs.declared.fault.DecodeFault.TheVariants.{Expansion, Descending, NoNull, SecondNull}
use Rattle.map_codec.specs.Element.{is_null, nulls, element_at}
use Rattle.map_codec.specs.DecodeFault.{first_of, expands_at, offset_before, descends_at}
use Rattle.map_codec.specs.DecodeFault.{repeats_null_at, expansion_fault}
use Rattle.map_codec.specs.DecodeFault.{descending_fault, null_faults, elements_fault}
use Rattle.map_codec.proofs.Least.{least_none, least_is, all_none, none_if, none_at}
use Rattle.map_codec.proofs.Nulls.{nulls-take-le, descends_at-past}

-- the least expansion is the fault
pub expansion_found : (es : List Element) (i : ℕ) → i < length es → expands_at es i ≡ true
    → ((k : ℕ) → k < i → expands_at es k ≡ false) → expansion_fault es ≡ Some (Expansion i)
expansion_found es i lt here below =
    ap (option_map Expansion) (least_is (expands_at es) (length es) i lt here below)

-- no expansion is no fault
pub expansion_none : (es : List Element) → ((k : ℕ) → k < length es → expands_at es k ≡ false)
    → expansion_fault es ≡ None
expansion_none es none = ap (option_map Expansion) (least_none (expands_at es) (length es) none)

-- the least element that begins before the one before it is the fault
pub descending_found : (es : List Element) (i : ℕ) → i < length es → nulls (take i es) ≡ 0
    → (element_at es i).offset < offset_before es i → ((k : ℕ) → k < i → descends_at es k ≡ false)
    → descending_fault es ≡ Some (Descending i)
descending_found es i lt no_null less below =
    let here = and_from _ _ (eq-eqb _ _ no_null) (lt-ltb _ _ less) in
    ap (option_map Descending) (least_is (descends_at es) (length es) i lt here below)

-- no such element is no fault
pub descending_none : (es : List Element) → ((k : ℕ) → k < length es → descends_at es k ≡ false)
    → descending_fault es ≡ None
descending_none es none = ap (option_map Descending) (least_none (descends_at es) (length es) none)

-- past a Null at whose place nothing descends, nothing does
pub none_past : (es : List Element) (i : ℕ) → i < length es → is_null (element_at es i) ≡ true
    → offset_before es i ≤ (element_at es i).offset → ((k : ℕ) → k < i → descends_at es k ≡ false)
    → (k : ℕ) → k < length es → descends_at es k ≡ false
none_past es i lt null le below k _ =
    elim (cases_order k i) [
      | inl same ↦ rw same (and_right (eqb (nulls (take i es)) 0) _ (le-ltb _ _ le))
      | inr (inl less) ↦ below k less
      | inr (inr past) ↦ descends_at-past es i k lt null past
    ]

-- nor is there one past a Null
pub descending_none_past : (es : List Element) (i : ℕ) → i < length es → is_null (element_at es i) ≡ true
    → offset_before es i ≤ (element_at es i).offset → ((k : ℕ) → k < i → descends_at es k ≡ false)
    → descending_fault es ≡ None
descending_none_past es i lt null le below = descending_none es (none_past es i lt null le below)

-- a Null with one before it, the least, is the fault
pub null_repeated : (es : List Element) (i : ℕ) → i < length es → is_null (element_at es i) ≡ true
    → 0 < nulls (take i es) → ((k : ℕ) → k < i → repeats_null_at es k ≡ false)
    → first_of (null_faults es) ≡ Some (SecondNull i)
null_repeated es i lt null seen below =
    let some : eqb (nulls es) 0 ≡ false = ne_eqb _ _ (λ e. absurd (omega (arith, nulls-take-le es i))) in
    let here = and_from _ _ null (lt-ltb _ _ seen) in
    let at = least_is (repeats_null_at es) (length es) i lt here below in
    rw (some, at) refl

-- no Null is the fault
pub null_missing : (es : List Element) → nulls es ≡ 0 → first_of (null_faults es) ≡ Some NoNull
null_missing es none = rw (eq-eqb _ _ none) refl

-- a Null that none repeats is no fault
pub null_fine : (es : List Element) → (nulls es ≡ 0 → ⊥)
    → ((k : ℕ) → k < length es → repeats_null_at es k ≡ false) → first_of (null_faults es) ≡ None
null_fine es some none = rw (ne_eqb _ _ some, least_none (repeats_null_at es) (length es) none) refl

-- elements with no fault
pub record AreFine (es : List Element) : Type 0 where
  pub no_expansion : (i : ℕ) → i < length es → expands_at es i ≡ false
  pub no_descent : (i : ℕ) → i < length es → descends_at es i ≡ false
  pub some_null : nulls es ≡ 0 → ⊥
  pub no_other : (i : ℕ) → i < length es → repeats_null_at es i ≡ false

-- elements in which no fault is found are fine
pub fine_from_none : (es : List Element) → elements_fault es ≡ None → AreFine es
unfolding elements_fault
fine_from_none es e =
    let faults = expansion_fault es ∷ descending_fault es ∷ null_faults es in
    let (expansions, (descents, (missing, (second, end)))) = all_none faults e in
    record {
      no_expansion = none_at Expansion (expands_at es) (length es) expansions;
      no_descent = none_at Descending (descends_at es) (length es) descents;
      some_null = eqb-false (nulls es) 0 (none_if (eqb (nulls es) 0) NoNull missing);
      no_other = none_at SecondNull (repeats_null_at es) (length es) second;
    }

-- and in elements that are fine none is found
pub elements_fault-fine : (es : List Element) → AreFine es → elements_fault es ≡ None
unfolding elements_fault
elements_fault-fine es fine =
    let expansions = expansion_none es fine.no_expansion in
    let descents = descending_none es fine.no_descent in
    let nulls = null_fine es fine.some_null fine.no_other in
    rw (expansions, descents, nulls) refl
