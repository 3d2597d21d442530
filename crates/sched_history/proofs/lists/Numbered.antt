-- What f gives of ascending numbers, where each value has its number as its key.
use Rattle.std.proofs.Common.{◌≡◌, ◌≢◌, ℕ, zero, suc, ◌+◌, ◌≤◌, ◌<◌, Bool, true, false, nat_lt, ◌==◌, if◌then◌else◌}
use Rattle.std.proofs.Common.{cond, List, [], ◌∷◌, map, filter, find, Option, None}
use Rattle.std.proofs.Common.{Some, refl, sym, subst, ◌∙◌, arith, inl, inr, ◌⊎◌}
use Rattle.std.specs.List.{AllByRecursion, filter_map, cons_option}
use Rattle.std.specs.Option.{option_map, option_and_then}
use Rattle.std.proofs.lemmas.Bool.{cases_eq}
use Rattle.std.proofs.lemmas.Bool.Decides.{nat_tests}
use Rattle.sched_calls.specs.Sids.{AscendBy}
use Rattle.periodic.specs.Placement.{count_from}

-- the value where it passes the test
abbrev pub kept_if : {Y : Type 0} → (Y → Bool) → Y → Option Y
kept_if p y = if p y then Some y else None

module _ {X Y : Type 0} (f g : X → Option Y) where
  -- of the same values the same is left
  pub filter_map-same : (xs : List X) → ((x : X) → g x ≡ f x) → filter_map g xs ≡ filter_map f xs
  filter_map-same [] same = refl
  filter_map-same (x ∷ xs) same = rw (same x, filter_map-same xs same) refl

  map-cons_option : (change : Y → Y) (o : Option Y) (ys : List Y)
      → cons_option (option_map change o) (map change ys) ≡ map change (cons_option o ys)
  map-cons_option change None ys = refl
  map-cons_option change (Some y) ys = refl

  -- of changed values the changed ones are left
  pub filter_map-changed : (change : Y → Y) (xs : List X) → ((x : X) → g x ≡ option_map change (f x))
      → filter_map g xs ≡ map change (filter_map f xs)
  filter_map-changed change [] each = refl
  filter_map-changed change (x ∷ xs) each =
      rw (each x, filter_map-changed change xs each) (map-cons_option change (f x) (filter_map f xs))

  cons_option-cond : (b : Bool) (y : Y) (ys : List Y) → cons_option (cond b (Some y) None) ys ≡ cond b (y ∷ ys) ys
  cons_option-cond true y ys = refl
  cons_option-cond false y ys = refl

  filter-cons_option : (p : Y → Bool) (o : Option Y) (ys : List Y)
      → cons_option (option_and_then (kept_if p) o) (filter p ys) ≡ filter p (cons_option o ys)
  filter-cons_option p None ys = refl
  filter-cons_option p (Some y) ys = cons_option-cond (p y) y (filter p ys)

  -- of values that pass a test those are left
  pub filter_map-kept : (p : Y → Bool) (xs : List X) → ((x : X) → g x ≡ option_and_then (kept_if p) (f x))
      → filter_map g xs ≡ filter p (filter_map f xs)
  filter_map-kept p [] each = refl
  filter_map-kept p (x ∷ xs) each =
      rw (each x, filter_map-kept p xs each) (filter-cons_option p (f x) (filter_map f xs))

-- the values with one more, in order of their keys
abbrev pub put_in : {Y : Type 0} → (Y → ℕ) → Y → List Y → List Y
put_in key y [] = y ∷ []
put_in key y (z ∷ ys) = if nat_lt (key y) (key z) then y ∷ z ∷ ys else z ∷ put_in key y ys

-- each value has its number
abbrev pub HasNumber : {Y : Type 0} → (Y → ℕ) → (ℕ → Option Y) → Type 0
HasNumber {Y} key f = (n : ℕ) (y : Y) → f n ≡ Some y → key y ≡ n

module _ {Y : Type 0} (key : Y → ℕ) where
  -- a value under another number is passed over
  find-other : (o : Option Y) (k n : ℕ) (ys : List Y) → ((y : Y) → o ≡ Some y → key y ≡ k) → k ≢ n
      → find (λ y. key y == n) (cons_option o ys) ≡ find (λ y. key y == n) ys
  find-other None k n ys has other = refl
  find-other (Some y) k n ys has other = let own : key y ≡ k = has y refl in grind (arith, nat_tests)

  -- the value under the number is found
  find-here : (o : Option Y) (n : ℕ) (ys : List Y) → ((y : Y) → o ≡ Some y → key y ≡ n)
      → find (λ y. key y == n) ys ≡ None → find (λ y. key y == n) (cons_option o ys) ≡ o
  find-here None n ys has none = none
  find-here (Some y) n ys has none = let own : key y ≡ n = has y refl in grind (arith, nat_tests)

  all-cons_option : (P : Y → Type 0) (o : Option Y) (ys : List Y) → ((y : Y) → o ≡ Some y → P y) → AllByRecursion P ys
      → AllByRecursion P (cons_option o ys)
  all-cons_option P None ys here all = all
  all-cons_option P (Some y) ys here all = (here y refl, all)

  -- a lower key goes in front
  put_in-front : (y : Y) (ys : List Y) → AllByRecursion (λ z. key y < key z) ys → put_in key y ys ≡ y ∷ ys
  put_in-front y [] all = refl
  put_in-front y (z ∷ ys) all = let above : key y < key z = all.0 in grind (arith, nat_tests)

  -- a higher key goes behind
  put_in-behind : (y : Y) (o : Option Y) (k : ℕ) (ys : List Y) → ((z : Y) → o ≡ Some z → key z ≡ k) → k < key y
      → put_in key y (cons_option o ys) ≡ cons_option o (put_in key y ys)
  put_in-behind y None k ys has above = refl
  put_in-behind y (Some z) k ys has above = let own : key z ≡ k = has z refl in grind (arith, nat_tests)

  ascends-cons : {first : ℕ} (o : Option Y) (ys : List Y) → ((y : Y) → o ≡ Some y → key y ≡ first)
      → AllByRecursion (λ y. first < key y) ys → AscendBy key ys → AscendBy key (cons_option o ys)
  ascends-cons None ys own above up = up
  ascends-cons (Some y) ys own above up = (subst (λ n. AllByRecursion (λ z. n < key z) ys) (sym (own y refl)) above, up)

  module _ (f : ℕ → Option Y) (has : HasNumber key f) where
    -- values above a number have a higher key
    pub filter_map-above : (bound first n : ℕ) → bound < first
        → AllByRecursion (λ y. bound < key y) (filter_map f (count_from first n))
    filter_map-above bound first zero low = tt
    filter_map-above bound first (suc n) low =
        all-cons_option (λ y. bound < key y) (f first) (filter_map f (count_from (first + 1) n))
        (λ y is. let own : key y ≡ first = has first y is in omega arith)
        (filter_map-above bound (first + 1) n (omega arith))

    -- and they stand in the order of their keys
    pub filter_map-ascends : (first n : ℕ) → AscendBy key (filter_map f (count_from first n))
    filter_map-ascends first zero = tt
    filter_map-ascends first (suc n) =
        ascends-cons (f first) (filter_map f (count_from (first + 1) n)) (has first)
        (filter_map-above first (first + 1) n (omega arith)) (filter_map-ascends (first + 1) n)

    -- and below the last number none has a higher one
    pub filter_map-below : (bound first n : ℕ) → first + n ≤ bound
        → AllByRecursion (λ y. key y < bound) (filter_map f (count_from first n))
    filter_map-below bound first zero high = tt
    filter_map-below bound first (suc n) high =
        all-cons_option (λ y. key y < bound) (f first) (filter_map f (count_from (first + 1) n))
        (λ y is. let own : key y ≡ first = has first y is in omega arith)
        (filter_map-below bound (first + 1) n (omega arith))

    -- a number outside of the range has no value
    pub find-outside : (first n x : ℕ) → (x < first) ⊎ (first + n ≤ x)
        → find (λ y. key y == x) (filter_map f (count_from first n)) ≡ None
    find-outside first zero x out = refl
    find-outside first (suc n) x (inl low) =
        find-other (f first) first x (filter_map f (count_from (first + 1) n)) (has first) (omega arith)
        ∙ find-outside (first + 1) n x (inl (omega arith))
    find-outside first (suc n) x (inr high) =
        find-other (f first) first x (filter_map f (count_from (first + 1) n)) (has first) (omega arith)
        ∙ find-outside (first + 1) n x (inr (omega arith))

    -- a number within the range has that which f gives
    pub find-inside : (first n x : ℕ) → first ≤ x → x < first + n
        → find (λ y. key y == x) (filter_map f (count_from first n)) ≡ f x
    find-inside first zero x low high = absurd (omega arith)
    find-inside first (suc n) x low high = elim (cases_eq first x) [
      | inl same ↦
          rw (same)
          (find-here (f x) x (filter_map f (count_from (x + 1) n)) (has x)
          (find-outside (x + 1) n x (inl (omega arith))))
      | inr other ↦ find-other (f first) first x (filter_map f (count_from (first + 1) n)) (has first) other
          ∙ find-inside (first + 1) n x (omega arith) (omega arith)
    ]

    module _ (g : ℕ → Option Y) (x : ℕ) (y : Y) (own : key y ≡ x) (old : f x ≡ None) (new : g x ≡ Some y)
        (same : (n : ℕ) → n ≢ x → g n ≡ f n) where
      same-above : (first n : ℕ) → x < first → filter_map g (count_from first n) ≡ filter_map f (count_from first n)
      same-above first zero above = refl
      same-above first (suc n) above = rw (same first (omega arith), same-above (first + 1) n (omega arith)) refl

      -- one value more is put in at its number
      pub filter_map-put_in : (first n : ℕ) → first ≤ x → x < first + n
          → filter_map g (count_from first n) ≡ put_in key y (filter_map f (count_from first n))
      filter_map-put_in first zero low high = absurd (omega arith)
      filter_map-put_in first (suc n) low high = elim (cases_eq first x) [
        | inl here ↦ rw (here, new, old, same-above (x + 1) n (omega arith))
            (sym (put_in-front y (filter_map f (count_from (x + 1) n))
            (rw own (filter_map-above x (x + 1) n (omega arith)))))
        | inr other ↦ rw (same first other, filter_map-put_in (first + 1) n (omega arith) (omega arith))
            (sym (put_in-behind y (f first) first (filter_map f (count_from (first + 1) n)) (has first) (omega arith)))
      ]
