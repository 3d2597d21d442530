-- Slots in order, where one is put in, taken out or put for another.
use Rattle.std.proofs.Common.{◌≡◌, ◌≢◌, ◌∙◌, ap, sym, ℕ, suc, ◌+◌, ◌-◌, ◌<◌, ◌≤◌, ◌^◌, ◌==◌, ◌⊎◌, List}
use Rattle.std.proofs.Common.{map, length, get_or, set, insert, remove, cond, ltb, inl, inr, arith}
use Rattle.std.proofs.lemmas.Bool.{cases_eq, cases_lt, cases_order, cond-true, cond-false, lt-ltb, le-ltb}
use Rattle.std.proofs.lemmas.Bool.{eq-eqb, ne_eqb}
use Rattle.std.proofs.lemmas.List.{length-map, length-set, get_or-map, get_or_default, get_or-set_same}
use Rattle.std.proofs.lemmas.List.{get_or-set_other, same_lists}
use Rattle.std.proofs.lemmas.List.Edits.{length-insert, get_or-insert_below, get_or-insert_at, get_or-insert_above}
use Rattle.std.proofs.lemmas.List.Edits.{length-remove, get_or-remove_below, get_or-remove_above}
use Rattle.flow_book.specs.Slots.{AreApart, IsOrder, moved}
use Rattle.flow_book.proofs.Slots.{AreBelow}

-- a place with one put in before it, and one with one taken out before it
abbrev up : ℕ → ℕ → ℕ
up p i = cond (ltb i p) i (suc i)

abbrev down : ℕ → ℕ → ℕ
down p i = cond (ltb p i) (i - 1) i

-- where a member of a longer list stood
record Stood (slots : List ℕ) (p new i : ℕ) : Type 0 where
  from : ℕ
  within : from < length slots
  is : get_or (insert slots p new) i 0 ≡ get_or slots from 0
  back : i ≡ up p from

-- where a member of a shorter list stood
record Came (slots : List ℕ) (p i : ℕ) : Type 0 where
  from : ℕ
  within : from < length slots
  other : from ≢ p
  is : get_or (remove slots p) i 0 ≡ get_or slots from 0
  back : i ≡ down p from

module _ (slots : List ℕ) (p : ℕ) where
  stood : (new i : ℕ) → p ≤ length slots → i < length slots + 1
      → ((i ≡ p) × (get_or (insert slots p new) i 0 ≡ new)) ⊎ Stood slots p new i
  stood new i le lt = elim (cases_order i p) [
    | inl same ↦ inl (same, ap (λ k. get_or (insert slots p new) k 0) same ∙ get_or-insert_at slots p new 0 le)
    | inr (inl less) ↦ inr (record {
      from = i;
      within = omega arith;
      is = get_or-insert_below slots p new 0 i less le;
      back = sym (cond-true (ltb i p) i (suc i) (lt-ltb i p less));
    })
    | inr (inr more) ↦ inr (record {
      from = i - 1;
      within = omega arith;
      is = ap (λ k. get_or (insert slots p new) k 0) (omega arith)
          ∙ get_or-insert_above slots p new 0 (i - 1) (omega arith) le;
      back = let is : i ≡ suc (i - 1) = omega arith in
          is ∙ sym (cond-false (ltb (i - 1) p) (i - 1) (suc (i - 1)) (le-ltb (i - 1) p (omega arith)));
    })
  ]

  came : (i : ℕ) → p < length slots → i + 1 < length slots + 0 → Came slots p i
  came i within lt = elim (cases_lt i p) [
    | inl less ↦ record {
      from = i;
      within = omega arith;
      other = omega arith;
      is = get_or-remove_below slots p 0 i less within;
      back = sym (cond-false (ltb p i) (i - 1) i (le-ltb p i (omega arith)));
    }
    | inr more ↦ record {
      from = i + 1;
      within = omega arith;
      other = omega arith;
      is = get_or-remove_above slots p 0 i more within;
      back = let is : i ≡ i + 1 - 1 = omega arith in
          is ∙ sym (cond-true (ltb p (i + 1)) (i + 1 - 1) (i + 1) (lt-ltb p (i + 1) (omega arith)));
    }
  ]

-- a new slot is put in
pub IsOrder-insert : (slots : List ℕ) (n p : ℕ) → IsOrder slots n → p ≤ n → n < 2 ^ 16
    → IsOrder (insert slots p n) (n + 1)
IsOrder-insert slots n p order le few =
    let le' : p ≤ length slots = omega (arith, order.as_many) in
    let many : length (insert slots p n) ≡ length slots + 1 = length-insert slots p n le' in
    record {
      as_many = omega (arith, many, order.as_many);
      below = λ i lt. elim (stood slots p n i le' (omega arith)) [
        | inl new ↦ omega (arith, new.1)
        | inr old ↦ omega (arith, old.is, order.below old.from old.within)
      ];
      apart = record {
        apart = λ i j it jt same. elim (stood slots p n i le' (omega arith)) [
          | inl a ↦ elim (stood slots p n j le' (omega arith)) [
            | inl b ↦ a.0 ∙ sym b.0
            | inr b ↦ absurd (omega (arith, a.1, b.is, same, order.below b.from b.within))
          ]
          | inr a ↦ elim (stood slots p n j le' (omega arith)) [
            | inl b ↦ absurd (omega (arith, b.1, a.is, same, order.below a.from a.within))
            | inr b ↦ a.back
                ∙ ap (up p) (order.apart.apart a.from b.from a.within b.within (sym a.is ∙ same ∙ b.is))
                ∙ sym b.back
          ]
        ];
      };
      few = omega arith;
    }

-- the slots but one
pub record IsRest (slots : List ℕ) (n out : ℕ) : Type 0 where
  pub as_many : length slots + 1 ≡ n
  pub below : AreBelow slots n
  pub other : (i : ℕ) → i < length slots → get_or slots i 0 ≢ out
  pub apart : AreApart slots

-- a slot is taken out
pub IsRest-remove : (slots : List ℕ) (n p : ℕ) → IsOrder slots n → p < n
    → IsRest (remove slots p) n (get_or slots p 0)
IsRest-remove slots n p order within =
    let within' : p < length slots = omega (arith, order.as_many) in
    let many : length (remove slots p) + 1 ≡ length slots = length-remove slots p within' in
    record {
      as_many = many ∙ order.as_many;
      below = λ i lt. let a = came slots p i within' (omega arith) in omega (arith, a.is, order.below a.from a.within);
      other = λ i lt same. let a = came slots p i within' (omega arith) in
          a.other (order.apart.apart a.from p a.within within' (sym a.is ∙ same));
      apart = record {
        apart = λ i j it jt same.
            let a = came slots p i within' (omega arith) in
            let b = came slots p j within' (omega arith) in
            a.back ∙ ap (down p) (order.apart.apart a.from b.from a.within b.within (sym a.is ∙ same ∙ b.is))
            ∙ sym b.back;
      };
    }

pub moved-from : (from to s : ℕ) → s ≡ from → moved from to s ≡ to
moved-from from to s same = cond-true (s == from) to s (eq-eqb s from same)

pub moved-other : (from to s : ℕ) → s ≢ from → moved from to s ≡ s
moved-other from to s other = cond-false (s == from) to s (ne_eqb s from other)

-- a slot that is put for the one that stands at a place
pub set-moved : (slots : List ℕ) (p from to : ℕ) → AreApart slots → p < length slots → get_or slots p 0 ≡ from
    → set slots p to ≡ map (moved from to) slots
set-moved slots p from to apart within here =
    let new : List ℕ = map (moved from to) slots in
    let many : length new ≡ length slots = length-map slots (moved from to) in
    let old : length (set slots p to) ≡ length slots = length-set slots p to in
    let news : (k d : ℕ) → k < length slots → get_or new k d ≡ moved from to (get_or slots k 0) =
    λ k d kt. get_or-map (moved from to) slots k 0 d kt in
    same_lists (set slots p to) new (old ∙ sym many) (λ k d kt. elim (cases_eq k p) [
      | inl same ↦ ap (λ j. get_or (set slots p to) j d) same
          ∙ get_or-set_same slots p to d within
          ∙ sym (moved-from from to (get_or slots k 0) (ap (λ j. get_or slots j 0) same ∙ here))
          ∙ sym (news k d (omega arith))
      | inr other ↦ get_or-set_other slots p k to d other
          ∙ get_or_default slots k d 0 (omega arith)
          ∙ sym (moved-other from to (get_or slots k 0)
          (λ same. other (apart.apart k p (omega arith) within (same ∙ sym here))))
          ∙ sym (news k d (omega arith))
    ])

-- the last slot is put for the one that was taken out
pub IsOrder-moved : (slots : List ℕ) (last out : ℕ) → IsRest slots (last + 1) out → out ≤ last → last < 2 ^ 16
    → IsOrder (map (moved last out) slots) last
IsOrder-moved slots last out rest le few =
    let new : List ℕ = map (moved last out) slots in
    let many : length new ≡ length slots = length-map slots (moved last out) in
    let news : (k : ℕ) → k < length slots → get_or new k 0 ≡ moved last out (get_or slots k 0) =
    λ k kt. get_or-map (moved last out) slots k 0 0 kt in
    record {
      as_many = omega (arith, many, rest.as_many);
      below = λ i lt. elim (cases_eq (get_or slots i 0) last) [
        | inl same ↦ (
            let is = moved-from last out (get_or slots i 0) same in
            omega (arith, is, news i (omega arith), rest.other i (omega arith)))
        | inr other ↦ (
            let is = moved-other last out (get_or slots i 0) other in
            omega (arith, is, news i (omega arith), rest.below i (omega arith)))
      ];
      apart = record {
        apart = λ i j it jt same.
            let a = get_or slots i 0 in
            let b = get_or slots j 0 in
            let it' : i < length slots = omega (arith, many) in
            let jt' : j < length slots = omega (arith, many) in
            let both : moved last out a ≡ moved last out b = sym (news i it') ∙ same ∙ news j jt' in
            rest.apart.apart i j it' jt' (elim (cases_eq a last) [
              | inl a-is ↦ elim (cases_eq b last) [
                | inl b-is ↦ a-is ∙ sym b-is
                | inr b-not ↦ absurd (rest.other j jt'
                    (sym (moved-other last out b b-not) ∙ sym both ∙ moved-from last out a a-is))
              ]
              | inr a-not ↦ elim (cases_eq b last) [
                | inl b-is ↦ absurd (rest.other i it'
                    (sym (moved-other last out a a-not) ∙ both ∙ moved-from last out b b-is))
                | inr b-not ↦ sym (moved-other last out a a-not) ∙ both ∙ moved-other last out b b-not
              ]
            ]);
      };
      few = omega arith;
    }

-- so the slots but one are an order again
pub IsOrder-taken : (slots : List ℕ) (last p : ℕ) → IsOrder slots (last + 1) → p < length slots
    → IsOrder (map (moved last (get_or slots p 0)) (remove slots p)) last
IsOrder-taken slots last p order within =
    IsOrder-moved (remove slots p) last (get_or slots p 0)
    (IsRest-remove slots (last + 1) p order (omega (arith, order.as_many)))
    (omega (arith, order.below p within)) (omega (arith, order.few))
