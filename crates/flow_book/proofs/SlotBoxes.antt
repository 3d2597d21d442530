-- What is in boxes that stand in slots, where one is put in or taken out.
use Rattle.std.proofs.Common.{◌≡◌, ◌≢◌, ◌∙◌, ap, sym, ℕ, ◌+◌, ◌<◌, ◌≤◌, ◌^◌, List, [], ◌++◌, ◌∷◌, map, length}
use Rattle.std.proofs.Common.{get_or, insert, remove, inl, inr, arith}
use Rattle.std.proofs.lemmas.Bool.{cases_eq}
use Rattle.std.proofs.lemmas.List.{length-map, map_push}
use Rattle.std.proofs.Math.ListN.{get_or-map as get_or-value}
use Rattle.flow_book.specs.Slots.{picked, IsOrder, moved}
use Rattle.flow_book.proofs.Slots.{map-remove, map-map, map-same, picked-is, length-picked, picked-insert}
use Rattle.flow_book.proofs.SlotOrders.{IsOrder-insert, IsOrder-taken, IsRest-remove, moved-from, moved-other}

-- what the slots hold where the member of the last one was moved to the one that was taken out
pub record IsFilled {X : Type 0} (xs ys : List X) (last out : ℕ) (d : X) : Type 0 where
  pub as_many : length ys ≡ last
  pub filled : out < last → get_or ys out d ≡ get_or xs last d
  pub same : (s : ℕ) → s ≢ out → s < last → get_or ys s d ≡ get_or xs s d

module _ {X : Type 0} (xs ys : List X) (slots : List ℕ) (last p : ℕ) (d : X) where
  -- then the members are picked as before, but the one
  picked-moved : IsOrder slots (length xs) → length xs ≡ last + 1 → p < length slots
      → IsFilled xs ys last (get_or slots p 0) d
      → picked ys (map (moved last (get_or slots p 0)) (remove slots p)) ≡ remove (picked xs slots) p
  picked-moved order many within is =
      let out = get_or slots p 0 in
      let rest = IsRest-remove slots (length xs) p order (omega (arith, order.as_many)) in
      let all = IsOrder-taken slots last p (rw many at order) within in
      picked-is ys (map (moved last out) (remove slots p)) d (λ i lt. omega (arith, all.below i lt, is.as_many))
      ∙ map-map (λ s. get_or ys s d) (moved last out) (remove slots p)
      ∙ map-same (λ s. get_or ys (moved last out s) d) (λ s. get_or xs s d) (remove slots p)
      (λ i lt.
      let s = get_or (remove slots p) i 0 in
      elim (cases_eq s last) [
        | inl at ↦ ap (λ k. get_or ys k d) (moved-from last out s at)
            ∙ is.filled (elim (cases_eq out last) [
              | inl same ↦ absurd (rest.other i lt (at ∙ sym same))
              | inr other ↦ omega (arith, order.below p within)
            ])
            ∙ ap (λ k. get_or xs k d) (sym at)
        | inr other ↦ ap (λ k. get_or ys k d) (moved-other last out s other)
            ∙ is.same s (rest.other i lt) (omega (arith, rest.below i lt))
      ])
      ∙ map-remove (λ s. get_or xs s d) slots p
      ∙ ap (λ zs. remove zs p) (sym (picked-is xs slots d order.below))

module _ {B X : Type 0} (value : B → X) (boxes : List B) (slots : List ℕ) (order : IsOrder slots (length boxes)) where
  -- slots of boxes are slots of what is in them
  pub IsOrder-values : IsOrder slots (length (map value boxes))
  IsOrder-values = rw (length-map boxes value) order

  -- as many are picked as there are slots
  pub length-values : length (picked (map value boxes) slots) ≡ length slots
  length-values = length-picked (map value boxes) slots (IsOrder-values.below)

  -- what is put in a box behind all others is put in at its place
  pub picked-added : (p : ℕ) (b : B) → p ≤ length boxes → length boxes < 2 ^ 16
      → picked (map value (boxes ++ b ∷ [])) (insert slots p (length boxes))
      ≡ insert (picked (map value boxes) slots) p (value b)
  picked-added p b le few =
      let xs : List X = map value boxes in
      let many : length xs ≡ length boxes = length-map boxes value in
      let more = IsOrder-insert slots (length boxes) p order le few in
      ap (λ ys. picked ys (insert slots p (length boxes))) (map_push value boxes b)
      ∙ ap (λ n. picked (xs ++ value b ∷ []) (insert slots p n)) (sym many)
      ∙ picked-insert xs slots p (value b) (IsOrder-values.below) (rw many more.below)

  -- where the box of a slot is taken out, and the last is moved to it, the member is taken out
  pub picked-taken : (rest : List B) (last p : ℕ) (b : B) → length boxes ≡ last + 1 → p < length slots
      → IsFilled boxes rest last (get_or slots p 0) b
      → picked (map value rest) (map (moved last (get_or slots p 0)) (remove slots p))
      ≡ remove (picked (map value boxes) slots) p
  picked-taken rest last p b many within is =
      let out = get_or slots p 0 in
      picked-moved (map value boxes) (map value rest) slots last p (value b) IsOrder-values
      (length-map boxes value ∙ many) within (record {
        as_many = length-map rest value ∙ is.as_many;
        filled = λ lt. get_or-value value rest out b ∙ ap value (is.filled lt) ∙ sym (get_or-value value boxes last b);
        same = λ s other lt. get_or-value value rest s b ∙ ap value (is.same s other lt)
            ∙ sym (get_or-value value boxes s b);
      })
