-- Each allocation has its place in a drawing.
use Rattle.std.proofs.Common.{◌≡◌, ℕ, zero, suc, ◌+◌, ◌<◌, ◌≤◌, Bool, true, false, List, length, take, ap, inl}
use Rattle.std.proofs.Common.{inr}
use Rattle.std.proofs.Common.{add-one, arith, length-take}
use Rattle.std.specs.Prelude.{count_by, nat_le, ◌↔◌}
use Rattle.std.proofs.lemmas.Bool.{cases_Bool, cases_lt, le-leb}
use Rattle.std.proofs.lemmas.Bool.Decides.{leb_tells}
use Rattle.std.proofs.lemmas.List.Sums.{count_by_more_yes, count_by_more_no, count_by-le-length}
use Rattle.map_codec.specs.declared.element.Element.{Element}
use Rattle.map_codec.specs.Element.{nulls, element_at, no_element, Ascends}
use Rattle.map_drawing.specs.Allocation.{front_length, front_of, frame_slots}
use Rattle.map_drawing.specs.Rows.{begun, HasSlot}
use Rattle.map_drawing.proofs.Fronts.{front_length-≤, offset-≤}

module _ (p : Element → Bool) (es : List Element) where
  -- where the first elements pass a test, so many at least do
  many : (c m : ℕ) → c ≤ m → m ≤ length es → ((k : ℕ) → k < c → p (element_at es k) ≡ true)
      → c ≤ count_by p (take m es)
  many c zero le within all = omega arith
  many c (suc m) le within all =
      let below : m < length es = omega arith in
      let step : c ≤ count_by p (take (m + 1) es) =
      elim (cases_lt m c) [
        | inl last ↦
            let before = many m m (omega arith) (omega arith) (λ k lt. all k (omega arith)) in
            omega (arith, count_by_more_yes p es m no_element below (all m last), before)
        | inr others ↦
            let before = many c m others (omega arith) all in
            elim (cases_Bool (p (element_at es m))) [
              | inl passes ↦ omega (arith, count_by_more_yes p es m no_element below passes, before)
              | inr fails ↦ omega (arith, count_by_more_no p es m no_element below fails, before)
            ]
      ] in
      rw add-one at step

  -- where only the first elements pass it, so many at most do
  few : (c m : ℕ) → c ≤ m → m ≤ length es → ((k : ℕ) → c ≤ k → k < m → p (element_at es k) ≡ false)
      → count_by p (take m es) ≤ c
  few c zero le within none = omega arith
  few c (suc m) le within none =
      let below : m < length es = omega arith in
      elim (cases_lt m c) [
        | inl last ↦ omega (arith, count_by-le-length p (take (suc m) es), length-take (suc m) es)
        | inr others ↦
            let before = few c m others (omega arith) (λ k from lt. none k from (omega arith)) in
            let step : count_by p (take (m + 1) es) ≤ c =
            omega (arith, count_by_more_no p es m no_element below (none m others (omega arith)), before) in
            rw add-one at step
      ]

-- an offset that is past a minislot has not begun
not_begun : (a b : ℕ) → b < a → nat_le a b ≡ false
not_begun a b past = elim (leb_tells a b) [
  | inl begun ↦ absurd (omega (arith, begun.1))
  | inr later ↦ later.0
]

-- the allocation that has a minislot is the last that has begun
pub has_its_slots : (es : List Element) → nulls es ≡ 1 → Ascends es
    → (i slot : ℕ) → i < front_length es → slot < frame_slots es
    → (HasSlot es i slot ↔ (begun (front_of es) slot ≡ i + 1))
has_its_slots es one ascends i slot inside in_frame =
    let n = front_length es in
    let within : n ≤ length es = front_length-≤ es in
    let test = λ (e : Element). nat_le e.offset slot in
    let later : (c : ℕ) → c ≤ n → slot < (element_at es c).offset → count_by test (take n es) ≤ c =
    λ c le past. few test es c n le within (λ k from lt.
    not_begun _ slot (omega (arith, past, offset-≤ es one ascends c k from (omega arith)))) in
    let sooner : (c : ℕ) → suc c ≤ n → (element_at es c).offset ≤ slot → suc c ≤ count_by test (take n es) =
    λ c le has. many test es (suc c) n le within (λ k lt.
    le-leb _ slot (omega (arith, has, offset-≤ es one ascends k c (omega arith) (omega arith)))) in (
      λ has. omega (arith, later (i + 1) (omega arith) has.ends, sooner i (omega arith) has.begins),
      λ is. record {
        begins = elim (cases_lt slot (element_at es i).offset) [
          | inl past ↦ absurd (omega (arith, is, later i (omega arith) past))
          | inr has ↦ has
        ];
        ends = elim (cases_lt slot (element_at es (i + 1)).offset) [
          | inl past ↦ past
          | inr has ↦
              elim (cases_lt (i + 1) n) [
                | inl next ↦ absurd (omega (arith, is, sooner (i + 1) (omega arith) has))
                | inr last ↦
                    let same : i + 1 ≡ n = omega arith in
                    absurd (omega (arith, has, in_frame, ap (λ (k : ℕ). (element_at es k).offset) same))
              ]
        ];
      },
    )
