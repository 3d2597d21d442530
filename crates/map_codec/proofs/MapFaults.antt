-- Which fault a MAP has, and that a MAP with none is well formed.
use Rattle.std.proofs.Common.{◌≡◌, ℕ, ◌^◌, ◌<◌, ◌≤◌, ◌↔◌, Bool, true, false, ◌&&◌, not, ltb, eqb, List, []}
use Rattle.std.proofs.Common.{◌∷◌, length, take, suc, inl, inr, Some, None}
use Rattle.std.proofs.Common.{Option, Result, IsOk, refl, sym, ap, ◌∙◌, subst, arith}
use Rattle.std.specs.Option.{option_map}
use Rattle.std.specs.List.{AllByRecursion}
use Rattle.std.proofs.lemmas.Bool.{cases_Bool, and_from, eq-eqb, eqb-false, eqb-true, ne_eqb, lt-ltb, le-ltb}
use Rattle.std.proofs.lemmas.Bool.{ltb-true, ltb-false, not-false}
use Rattle.map_codec.specs.declared.element.Element.{Element}
use Rattle.map_codec.specs.declared.wire_map.WireMap.{WireMap}
use Rattle.map_codec.specs.declared.map_fault.MapFault.{MapFault}
use Rattle.map_codec.specs.declared.map_fault.MapFault.TheVariants.{TooMany, OutOfRange, Descending, NoNull}
use Rattle.map_codec.specs.declared.map_fault.MapFault.TheVariants.{SecondNull}
use Rattle.map_codec.specs.Element.{is_null, nulls, element_at, no_element, IsInRange}
use Rattle.map_codec.specs.WireMap.{FitsHeader, IsWellFormed}
use Rattle.map_codec.specs.DecodeFault.{least, offset_before, descends_at, repeats_null_at}
use Rattle.map_codec.specs.MapFault.{is_in_range, is_out_at, range_fault, descent_fault, null_fault}
use Rattle.map_codec.specs.MapFault.{count_fault, map_fault, judged}
use Rattle.map_codec.proofs.Least.{least_none, least_is, none_of_both, none_of_map, none_from_least, none_if}
use Rattle.map_codec.proofs.Nulls.{nulls-take-le, ascends_from_none, descends_at-none, nulls_one}
use Rattle.map_codec.proofs.Nulls.{repeats_null_at-none}
use Rattle.map_codec.proofs.Faults.{none_past}
use Rattle.map_codec.proofs.Spelling.{in_range_at}

module _ (es : List Element) (i : ℕ) (lt : i < length es) where
  -- the least element out of range is the fault
  pub out_found : is_out_at es i ≡ true → ((k : ℕ) → k < i → is_out_at es k ≡ false)
      → range_fault es ≡ Some (OutOfRange i)
  out_found here below = ap (option_map OutOfRange) (least_is (is_out_at es) (length es) i lt here below)

  -- the least element that begins before the one before it is the fault
  pub descent_found : nulls (take i es) ≡ 0 → (element_at es i).offset < offset_before es i
      → ((k : ℕ) → k < i → descends_at es k ≡ false) → descent_fault es ≡ Some (Descending i)
  descent_found no_null less below =
      let here = and_from _ _ (eq-eqb _ _ no_null) (lt-ltb _ _ less) in
      ap (option_map Descending) (least_is (descends_at es) (length es) i lt here below)

  -- a Null with one before it, the least, is the fault
  pub null_twice : is_null (element_at es i) ≡ true → 0 < nulls (take i es)
      → ((k : ℕ) → k < i → repeats_null_at es k ≡ false) → null_fault es ≡ Some (SecondNull i)
  null_twice null seen below =
      let some : eqb (nulls es) 0 ≡ false = ne_eqb _ _ (λ e. absurd (omega (arith, nulls-take-le es i))) in
      let here = and_from _ _ null (lt-ltb _ _ seen) in
      let at = least_is (repeats_null_at es) (length es) i lt here below in
      rw (some, at) refl

module _ (es : List Element) where
  -- no element out of range is no fault
  pub out_nowhere : ((k : ℕ) → k < length es → is_out_at es k ≡ false) → range_fault es ≡ None
  out_nowhere none = ap (option_map OutOfRange) (least_none (is_out_at es) (length es) none)

  -- no descent is no fault
  pub descent_nowhere : ((k : ℕ) → k < length es → descends_at es k ≡ false) → descent_fault es ≡ None
  descent_nowhere none = ap (option_map Descending) (least_none (descends_at es) (length es) none)

  -- nor is there one past a Null
  pub descent_not_past : (i : ℕ) → i < length es → is_null (element_at es i) ≡ true
      → offset_before es i ≤ (element_at es i).offset → ((k : ℕ) → k < i → descends_at es k ≡ false)
      → descent_fault es ≡ None
  descent_not_past i lt null le below = descent_nowhere (none_past es i lt null le below)

  -- no Null is the fault
  pub null_nowhere : nulls es ≡ 0 → null_fault es ≡ Some NoNull
  null_nowhere none = rw (eq-eqb _ _ none) refl

  -- a Null that none repeats is no fault
  pub null_once : (nulls es ≡ 0 → ⊥) → ((k : ℕ) → k < length es → repeats_null_at es k ≡ false)
      → null_fault es ≡ None
  null_once some none = rw (ne_eqb _ _ some, least_none (repeats_null_at es) (length es) none) refl

both_true : (x y : Bool) → (x && y) ≡ true → (x ≡ true) × (y ≡ true)
both_true true y e = (refl, e)
both_true false y e = absurd cc

-- an element that is not out of range has its numbers in range
in_range_from : (e : Element) → is_in_range e ≡ true → IsInRange e
in_range_from e is =
    let parts = both_true (ltb e.sid (2 ^ 14)) _ is in
    let more = both_true (ltb e.iuc 15) _ parts.1 in
    record { sid = ltb-true _ _ parts.0; iuc = ltb-true _ _ more.0; offset = ltb-true _ _ more.1 }

-- and one with its numbers in range is not out of it
in_range_is : (e : Element) → IsInRange e → is_in_range e ≡ true
in_range_is e fits = and_from _ _ (lt-ltb _ _ fits.sid) (and_from _ _ (lt-ltb _ _ fits.iuc) (lt-ltb _ _ fits.offset))

-- where no element is out of range, all are in range
all_in_range : (es : List Element) → ((i : ℕ) → i < length es → is_out_at es i ≡ false) → AllByRecursion IsInRange es
all_in_range [] none = tt
all_in_range (e ∷ es) none =
    (in_range_from e (not-false _ (none 0 (omega arith))), all_in_range es (λ i lt. none (suc i) (omega arith)))

-- where no fault of Nulls is found, there is one, and none repeats it
null_parts : (es : List Element) → null_fault es ≡ None
    → (nulls es ≡ 0 → ⊥) × ((i : ℕ) → i < length es → repeats_null_at es i ≡ false)
null_parts es e =
    elim (cases_Bool (eqb (nulls es) 0)) [
      | inl none ↦ absurd (let some : Some NoNull ≡ None = sym (null_nowhere es (eqb-true _ _ none)) ∙ e in cc)
      | inr some ↦
          let rest : option_map SecondNull (least (repeats_null_at es) (length es)) ≡ None = rw some at e in
          (eqb-false _ _ some, none_from_least (repeats_null_at es) (length es) (none_of_map SecondNull _ rest))
    ]

-- what is judged sound has no fault
none_from_ok : (o : Option MapFault) → IsOk (judged o) → o ≡ None
none_from_ok None ok = refl
none_from_ok (Some fault) ok = absurd cc

-- a MAP in which no fault is found is well formed
pub well_formed_from_none : (m : WireMap) → FitsHeader m → map_fault m ≡ None → IsWellFormed m
unfolding map_fault
well_formed_from_none m header e =
    let es = m.elements in
    let first = none_of_both (count_fault es) _ e in
    let second = none_of_both (range_fault es) _ first.1 in
    let third = none_of_both (descent_fault es) _ second.1 in
    let last = null_parts es third.1 in
    let range = none_from_least (is_out_at es) (length es) (none_of_map OutOfRange _ second.0) in
    let order = none_from_least (descends_at es) (length es) (none_of_map Descending _ third.0) in
    record {
      fits = header;
      count = ltb-false _ _ (none_if _ TooMany first.0);
      in_range = all_in_range es range;
      one_null = nulls_one es last.1 last.0;
      ascends = ascends_from_none es order;
    }

-- and in a well formed one none is found
pub map_fault-well_formed : (m : WireMap) → IsWellFormed m → map_fault m ≡ None
unfolding map_fault
map_fault-well_formed m well =
    let es = m.elements in
    let few : ltb 240 (length es) ≡ false = le-ltb _ _ well.count in
    let range : range_fault es ≡ None =
    out_nowhere es (λ i lt. ap not (in_range_is _ (in_range_at es i no_element well.in_range lt))) in
    let order = descent_nowhere es (descends_at-none es well.ascends) in
    let once : null_fault es ≡ None =
    null_once es (λ e. absurd (omega (arith, e, well.one_null))) (repeats_null_at-none es well.one_null) in
    rw (few, range, order) once

-- so what is judged sound is what is well formed
pub judged_well_formed : (m : WireMap) (answer : Result (Unit {0}) MapFault) → FitsHeader m
    → answer ≡ judged (map_fault m) → IsOk answer ↔ IsWellFormed m
judged_well_formed m answer header is = (
  λ ok. well_formed_from_none m header (none_from_ok (map_fault m) (subst IsOk is ok)),
  λ well. subst IsOk (sym (is ∙ ap judged (map_fault-well_formed m well))) refl,
)
