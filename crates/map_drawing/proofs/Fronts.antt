-- What stands before the Null.
use Rattle.std.proofs.Common.{◌≡◌, ℕ, zero, suc, ◌+◌, ◌-◌, ◌<◌, ◌≤◌, Bool, false, cond, ltb, List, length, take}
use Rattle.std.proofs.Common.{Some, None, ap, ◌∙◌, inl, inr, add-one, arith}
use Rattle.std.specs.Prelude.{unwrap_or}
use Rattle.std.specs.List.{position_or_len}
use Rattle.std.proofs.lemmas.Bool.{cases_Bool, ltb-true, ltb-false}
use Rattle.std.proofs.lemmas.List.{take_all}
use Rattle.std.proofs.lemmas.List.Sums.{fails_before_first}
use Rattle.map_codec.specs.declared.element.Element.{Element}
use Rattle.map_codec.specs.Element.{is_null, nulls, element_at, no_element, Ascends}
use Rattle.map_codec.proofs.Nulls.{nulls_more_no}
use Rattle.map_drawing.specs.Allocation.{front_length}

-- it is at most all elements
pub front_length-≤ : (es : List Element) → front_length es ≤ length es
front_length-≤ es =
    let at = position_or_len is_null es in
    let by = λ (b : Bool). unwrap_or (cond b (Some at) None) (length es) in
    elim (cases_Bool (ltb at (length es))) [
      | inl below ↦ let same : front_length es ≡ at = ap by below in omega (arith, same, ltb-true at (length es) below)
      | inr past ↦ let same : front_length es ≡ length es = ap by past in omega (arith, same)
    ]

-- no Null stands there
pub no_null_before : (es : List Element) (k : ℕ) → k < front_length es → is_null (element_at es k) ≡ false
no_null_before es k before =
    let at = position_or_len is_null es in
    let by = λ (b : Bool). unwrap_or (cond b (Some at) None) (length es) in
    let first : k < at =
    elim (cases_Bool (ltb at (length es))) [
      | inl below ↦ let same : front_length es ≡ at = ap by below in omega (arith, same, before)
      | inr past ↦
          let same : front_length es ≡ length es = ap by past in
          omega (arith, same, before, ltb-false at (length es) past)
    ] in
    fails_before_first is_null es k no_element first

-- no front of it has a Null
pub no_nulls_within : (es : List Element) (k : ℕ) → k ≤ front_length es → nulls (take k es) ≡ 0
no_nulls_within es zero within = omega arith
no_nulls_within es (suc k) within =
    let below : k < length es = omega (arith, front_length-≤ es) in
    let step : nulls (take (k + 1) es) ≡ 0 =
    nulls_more_no es k below (no_null_before es k (omega arith)) ∙ no_nulls_within es k (omega arith) in
    rw add-one at step

-- a Null stands behind it where there is one
pub front_length-< : (es : List Element) → nulls es ≡ 1 → front_length es < length es
front_length-< es one =
    elim (cases_Bool (ltb (front_length es) (length es))) [
      | inl below ↦ ltb-true (front_length es) (length es) below
      | inr past ↦
          let all : nulls (take (front_length es) es) ≡ nulls es =
          ap nulls (take_all (front_length es) es (ltb-false (front_length es) (length es) past)) in
          absurd (omega (arith, one, all, no_nulls_within es (front_length es) (omega arith)))
    ]

module _ (es : List Element) (one : nulls es ≡ 1) (ascends : Ascends es) where
  -- the offsets do not descend up to the Null
  pub offsets_ascend : (j d : ℕ) → j + d ≤ front_length es → (element_at es j).offset ≤ (element_at es (j + d)).offset
  offsets_ascend j zero within =
      let same : j + 0 ≡ j = omega arith in omega (arith, ap (λ (k : ℕ). (element_at es k).offset) same)
  offsets_ascend j (suc d) within =
      let before = offsets_ascend j d (omega arith) in
      let same : j + suc d ≡ suc (j + d) = omega arith in
      let below : suc (j + d) < length es = omega (arith, front_length-< es one) in
      let next = ascends (j + d) below (no_nulls_within es (suc (j + d)) (omega arith)) in
      omega (arith, before, next, ap (λ (k : ℕ). (element_at es k).offset) same)

  -- of two of them the later one has no lesser offset
  pub offset-≤ : (j k : ℕ) → j ≤ k → k ≤ front_length es → (element_at es j).offset ≤ (element_at es k).offset
  offset-≤ j k le within =
      let same : j + (k - j) ≡ k = omega arith in
      let between : (element_at es j).offset ≤ (element_at es (j + (k - j))).offset =
      offsets_ascend j (k - j) (omega arith) in
      rw same at between
