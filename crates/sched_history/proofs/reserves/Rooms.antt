-- The Reserves in their room: the first of it, of which some go and the others move forward.
use Rattle.std.proofs.Common.{◌≡◌, ℕ, zero, suc, ◌+◌, ◌-◌, ◌<◌, ◌≤◌, Bool, false, List, [], ◌∷◌, ◌++◌}
use Rattle.std.proofs.Common.{take, drop, length, get_or, refl, sym, ap, ◌∙◌, arith}
use Rattle.std.proofs.lemmas.List.{take_more, drop-drop, get_or-drop, length-take}
use Rattle.sched_history.specs.declared.scheduler.reserves.Reserve.{Reserve}
use Rattle.sched_history.specs.Reserves.{aged, left_of, unmarked}
use Rattle.sched_history.proofs.reserves.Aging.{aged-push}

-- the first n of a front are as many of the whole
pub front-of : (n count : ℕ) (items : List Reserve)
    → take (length (take n (take count items))) items ≡ take n (take count items)
front-of zero count items = refl
front-of (suc n) zero items = refl
front-of (suc n) (suc count) [] = refl
front-of (suc n) (suc count) (r ∷ items) = ap (λ rs. r ∷ rs) (front-of n count items)

-- how a room stands after the Reserves before this place: those that are left at its head, and the rest as it was
pub record IsAged (met : List Bool) (old items : List Reserve) (place kept : ℕ) : Type 0 where
  pub few : kept ≤ place
  pub done : take kept items ≡ aged (unmarked met (take place old))
  pub rest : drop place items ≡ drop place old

-- before the first
pub IsAged-none : (met : List Bool) (old : List Reserve) → IsAged met old old 0 0
IsAged-none met old = record { few = omega arith; done = none met; rest = refl }
  where
    none : (met : List Bool) → [] ≡ aged (unmarked met [])
    none [] = refl
    none (b ∷ met) = refl

module _ (met : List Bool) (old items : List Reserve) (place kept : ℕ) (is : IsAged met old items place kept)
    (within : place < length old) (d : Reserve) where
  -- what stands at the place is what stood there
  pub IsAged-here : get_or items place d ≡ get_or old place d
  IsAged-here =
      let zeroth : place + 0 ≡ place = omega arith in
      ap (λ n. get_or items n d) (sym zeroth) ∙ sym (get_or-drop place items 0 d)
      ∙ ap (λ xs. get_or xs 0 d) is.rest ∙ get_or-drop place old 0 d ∙ ap (λ n. get_or old n d) zeroth

  -- with one more
  pub IsAged-next : (more : List Reserve) (left : ℕ) → left ≤ kept + 1
      → take left more ≡ take kept items ++ aged (left_of (get_or met place false) (get_or items place d))
      → drop (kept + 1) more ≡ drop (kept + 1) items → IsAged met old more (place + 1) left
  IsAged-next more left least head behind =
      let long : length (take place old) ≡ place = omega (arith, length-take place old, within) in
      let gap : kept + 1 + (place - kept) ≡ place + 1 = omega (arith, is.few) in
      let far : (xs : List Reserve) → drop (place - kept) (drop (kept + 1) xs) ≡ drop (place + 1) xs =
      λ xs. drop-drop (place - kept) (kept + 1) xs ∙ ap (λ n. drop n xs) gap in
      let past : (xs : List Reserve) → drop 1 (drop place xs) ≡ drop (place + 1) xs = λ xs. drop-drop 1 place xs in
      record {
        few = omega (arith, is.few);
        done = head
            ∙ ap (λ xs. xs ++ aged (left_of (get_or met place false) (get_or items place d))) is.done
            ∙ ap (λ r. aged (unmarked met (take place old)) ++ aged (left_of (get_or met place false) r)) IsAged-here
            ∙ ap (λ n. aged (unmarked met (take place old)) ++ aged (left_of (get_or met n false) (get_or old place d)))
            (sym long)
            ∙ sym (aged-push met (take place old) (get_or old place d))
            ∙ ap (λ xs. aged (unmarked met xs)) (sym (take_more old place d within));
        rest = sym (far more) ∙ ap (drop (place - kept)) behind ∙ far items
            ∙ sym (past items) ∙ ap (drop 1) is.rest ∙ past old;
      }
