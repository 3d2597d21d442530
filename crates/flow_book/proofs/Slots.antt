-- A list of values where a member is put in or taken out, and members that are picked by their slots.
use Rattle.std.proofs.Common.{◌≡◌, ◌∙◌, refl, ap, sym, ℕ, suc, ◌+◌, ◌<◌, List, [], ◌++◌, ◌∷◌, map, take, drop}
use Rattle.std.proofs.Common.{length, get_or, set, insert, remove, inl, inr, arith}
use Rattle.std.proofs.lemmas.Bool.{cases_eq}
use Rattle.std.proofs.lemmas.List.{map-append, take-map, drop-map, length-map, length-set, get_or-map, get_or_default}
use Rattle.std.proofs.lemmas.List.{get_or-set_same, get_or-set_other, get_or_append_left, get_or_push, length_push}
use Rattle.std.proofs.lemmas.List.{same_lists}
use Rattle.flow_book.specs.Slots.{picked, AreApart}

module _ {X Y : Type 0} where
  -- the values of a list with one more member have its value there
  pub map-insert : (h : X → Y) (xs : List X) (i : ℕ) (x : X) → map h (insert xs i x) ≡ insert (map h xs) i (h x)
  map-insert h xs i x =
      map-append h (take i xs) (x ∷ drop i xs)
      ∙ ap (λ ys. ys ++ h x ∷ map h (drop i xs)) (sym (take-map h i xs))
      ∙ ap (λ ys. take i (map h xs) ++ h x ∷ ys) (sym (drop-map h i xs))

  -- and where a member is taken out its value is
  pub map-remove : (h : X → Y) (xs : List X) (i : ℕ) → map h (remove xs i) ≡ remove (map h xs) i
  map-remove h xs i =
      map-append h (take i xs) (drop (suc i) xs)
      ∙ ap (λ ys. ys ++ map h (drop (suc i) xs)) (sym (take-map h i xs))
      ∙ ap (λ ys. take i (map h xs) ++ ys) (sym (drop-map h (suc i) xs))

  -- the values of values
  pub map-map : {Z : Type 0} (g : Y → Z) (h : X → Y) (xs : List X) → map g (map h xs) ≡ map (λ x. g (h x)) xs
  map-map g h [] = refl
  map-map g h (x ∷ xs) = ap (λ ys. g (h x) ∷ ys) (map-map g h xs)

-- two functions that give one value of each number of a list
pub map-same : {Y : Type 0} (f g : ℕ → Y) (ns : List ℕ)
    → ((i : ℕ) → i < length ns → f (get_or ns i 0) ≡ g (get_or ns i 0)) → map f ns ≡ map g ns
map-same f g [] same = refl
map-same f g (n ∷ ns) same =
    ap (λ y. y ∷ map f ns) (same 0 (omega arith))
    ∙ ap (λ ys. g n ∷ ys) (map-same f g ns (λ i lt. same (suc i) (omega arith)))

-- the slots are those of a list
abbrev pub AreBelow : List ℕ → ℕ → Type 0
AreBelow slots n = (i : ℕ) → i < length slots → get_or slots i 0 < n

module _ {X : Type 0} where
  -- what is picked, read with any member past the end
  pub picked-is : (xs : List X) (slots : List ℕ) (d : X) → AreBelow slots (length xs)
      → picked xs slots ≡ map (λ s. get_or xs s d) slots
  picked-is [] [] d below = refl
  picked-is [] (s ∷ slots) d below = absurd (omega (arith, below 0 (omega arith)))
  picked-is (x ∷ xs) slots d below =
      map-same (λ s. get_or (x ∷ xs) s x) (λ s. get_or (x ∷ xs) s d) slots
      (λ i lt. get_or_default (x ∷ xs) (get_or slots i 0) x d (below i lt))

  pub length-picked : (xs : List X) (slots : List ℕ) → AreBelow slots (length xs)
      → length (picked xs slots) ≡ length slots
  length-picked [] [] below = refl
  length-picked [] (s ∷ slots) below = absurd (omega (arith, below 0 (omega arith)))
  length-picked (x ∷ xs) slots below = length-map slots _

  pub get_or-picked : (xs : List X) (slots : List ℕ) (d : X) (i : ℕ) → AreBelow slots (length xs) → i < length slots
      → get_or (picked xs slots) i d ≡ get_or xs (get_or slots i 0) d
  get_or-picked xs slots d i below lt =
      ap (λ ys. get_or ys i d) (picked-is xs slots d below)
      ∙ get_or-map (λ s. get_or xs s d) slots i 0 d lt

  -- a member that is changed in its slot is changed at its place, and no other
  pub picked-set : (xs : List X) (slots : List ℕ) (i : ℕ) (y : X) → AreBelow slots (length xs) → AreApart slots
      → i < length slots → picked (set xs (get_or slots i 0) y) slots ≡ set (picked xs slots) i y
  picked-set xs slots i y below apart lt =
      let here = get_or slots i 0 in
      let ys : List X = set xs here y in
      let many : length ys ≡ length xs = length-set xs here y in
      let old : List X = map (λ s. get_or xs s y) slots in
      let new : List X = map (λ s. get_or ys s y) slots in
      let news : (k : ℕ) → k < length slots → get_or new k y ≡ get_or ys (get_or slots k 0) y =
      λ k kt. get_or-map (λ s. get_or ys s y) slots k 0 y kt in
      let olds : (k : ℕ) → k < length slots → get_or old k y ≡ get_or xs (get_or slots k 0) y =
      λ k kt. get_or-map (λ s. get_or xs s y) slots k 0 y kt in
      let long : length old ≡ length slots = length-map slots (λ s. get_or xs s y) in
      let wide : length new ≡ length slots = length-map slots (λ s. get_or ys s y) in
      picked-is ys slots y (λ k kt. omega (arith, below k kt, many))
      ∙ same_lists new (set old i y) (wide ∙ sym long ∙ sym (length-set old i y))
      (λ k d kt. get_or_default new k d y kt
      ∙ news k (omega arith)
      ∙ elim (cases_eq k i) [
        | inl same ↦ ap (λ j. get_or ys (get_or slots j 0) y) same
            ∙ get_or-set_same xs here y y (below i lt)
            ∙ sym (get_or-set_same old i y d (omega arith))
            ∙ ap (λ j. get_or (set old i y) j d) (sym same)
        | inr other ↦ get_or-set_other xs here (get_or slots k 0) y y
            (λ same. other (apart.apart k i (omega arith) lt same))
            ∙ sym (olds k (omega arith))
            ∙ get_or_default old k y d (omega arith)
            ∙ sym (get_or-set_other old i k y d other)
      ])
      ∙ ap (λ zs. set zs i y) (sym (picked-is xs slots y below))

  -- a member that is put in a slot of its own is put in at its place
  pub picked-insert : (xs : List X) (slots : List ℕ) (i : ℕ) (y : X) → AreBelow slots (length xs)
      → AreBelow (insert slots i (length xs)) (length xs + 1)
      → picked (xs ++ y ∷ []) (insert slots i (length xs)) ≡ insert (picked xs slots) i y
  picked-insert xs slots i y below more =
      let ys : List X = xs ++ y ∷ [] in
      picked-is ys (insert slots i (length xs)) y (λ k kt. omega (arith, more k kt, length_push xs y))
      ∙ map-insert (λ s. get_or ys s y) slots i (length xs)
      ∙ ap (λ z. insert (map (λ s. get_or ys s y) slots) i z) (get_or_push xs y y (length xs) refl)
      ∙ ap (λ zs. insert zs i y) (map-same (λ s. get_or ys s y) (λ s. get_or xs s y) slots
      (λ k kt. get_or_append_left xs (y ∷ []) y (get_or slots k 0) (below k kt)) ∙ sym (picked-is xs slots y below))

-- what is read in a slot stands at its place
pub read-picked : {B X : Type 0} (value : B → X) (boxes : List B) (slots : List ℕ) (i s : ℕ) (b : B) (x : X)
    → AreBelow slots (length (map value boxes)) → i < length slots → s ≡ get_or slots i s → b ≡ get_or boxes s b
    → x ≡ value b → x ≡ get_or (picked (map value boxes) slots) i x
read-picked value boxes slots i s b x below lt at here is =
    let slot : s ≡ get_or slots i 0 = at ∙ get_or_default slots i s 0 lt in
    let known : s < length boxes = omega (arith, below i lt, length-map boxes value, slot) in
    is ∙ ap value here
    ∙ sym (get_or-map value boxes s b x known)
    ∙ ap (λ k. get_or (map value boxes) k x) slot
    ∙ sym (get_or-picked (map value boxes) slots x i below lt)
