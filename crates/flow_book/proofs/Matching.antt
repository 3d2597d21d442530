-- Two lists in order go together where each member of one goes with a member of the other.
use Rattle.std.proofs.Common.{◌≡◌, sym, ℕ, zero, suc, ◌<◌, ◌⊎◌, inl, inr, Bool, true, false}
use Rattle.std.proofs.Common.{List, [], ◌∷◌, map, filter, length, get_or, refl, ◌&&◌, cond, arith}
use Rattle.std.specs.List.{AllByRecursion, AllZip}
use Rattle.std.proofs.lemmas.Bool.{cond_both}
use Rattle.sched_calls.specs.Sids.{AscendBy}

-- one of them is such
abbrev pub Has : {X : Type 0} → (X → Type 0) → List X → Type 0
Has P [] = ⊥
Has P (x ∷ xs) = P x ⊎ Has P xs

module _ {X : Type 0} (P : X → Type 0) where
  -- one of those that pass is such
  pub has-kept : (p : X → Bool) (xs : List X) (k : ℕ) (d : X) → k < length xs → p (get_or xs k d) ≡ true
      → P (get_or xs k d) → Has P (filter p xs)
  has-kept p [] k d lt passes here = absurd (omega arith)
  has-kept p (x ∷ xs) zero d lt passes here = rw passes (inl here)
  has-kept p (x ∷ xs) (suc k) d lt passes here =
      cond_both (p x) (x ∷ filter p xs) (filter p xs) (Has P)
      (λ kept. inr (has-kept p xs k d (omega arith) passes here)) (λ out. has-kept p xs k d (omega arith) passes here)

  -- what holds of each that passes
  pub all-kept : (p : X → Bool) (xs : List X) → AllByRecursion (λ x. p x ≡ true → P x) xs
      → AllByRecursion P (filter p xs)
  all-kept p [] all = tt
  all-kept p (x ∷ xs) all =
      cond_both (p x) (x ∷ filter p xs) (filter p xs) (AllByRecursion P)
      (λ kept. (all.0 kept, all-kept p xs all.1)) (λ out. all-kept p xs all.1)

module _ {X Y : Type 0} (P : Y → Type 0) (h : X → Y) where
  pub all-map : (xs : List X) → AllByRecursion (λ x. P (h x)) xs → AllByRecursion P (map h xs)
  all-map [] all = tt
  all-map (x ∷ xs) all = (all.0, all-map xs all.1)

module _ {X : Type 0} (p q : X → Bool) where
  -- tests that agree keep the same
  pub filter-same : (xs : List X) → AllByRecursion (λ x. p x ≡ q x) xs → filter p xs ≡ filter q xs
  filter-same [] all = refl
  filter-same (x ∷ xs) all = rw (all.0, filter-same xs all.1) refl

  both-cond : (a : Bool) (x : X) (xs : List X) (ys : List X) → filter q xs ≡ ys
      → filter q (cond a (x ∷ xs) xs) ≡ cond (a && q x) (x ∷ ys) ys
  both-cond true x xs ys is = rw is refl
  both-cond false x xs ys is = is

  -- two tests in turn keep what passes both
  pub filter-both : (xs : List X) → filter q (filter p xs) ≡ filter (λ x. p x && q x) xs
  filter-both [] = refl
  filter-both (x ∷ xs) = both-cond (p x) x (filter p xs) _ (filter-both xs)

module _ {X Y : Type 0} (R : X → Y → Type 0) where
  -- lists that go together have the same values
  pub zip-values : {Z : Type 0} (u : X → Z) (v : Y → Z) (xs : List X) (ys : List Y)
      → ((x : X) (y : Y) → R x y → v y ≡ u x) → AllZip R xs ys → map v ys ≡ map u xs
  zip-values u v [] [] same zip = refl
  zip-values u v [] (y ∷ ys) same zip = absurd zip
  zip-values u v (x ∷ xs) [] same zip = absurd zip
  zip-values u v (x ∷ xs) (y ∷ ys) same zip =
      rw (same x y zip.0, zip-values u v xs ys same zip.1) refl

  -- two facts of those that go together
  pub zip-more : (P : X → Type 0) (S : X → Y → Type 0) (xs : List X) (ys : List Y)
      → ((x : X) (y : Y) → P x → R x y → S x y) → AllByRecursion P xs → AllZip R xs ys → AllZip S xs ys
  zip-more P S [] [] more all zip = tt
  zip-more P S [] (y ∷ ys) more all zip = absurd zip
  zip-more P S (x ∷ xs) [] more all zip = absurd zip
  zip-more P S (x ∷ xs) (y ∷ ys) more all zip = (more x y all.0 zip.0, zip-more P S xs ys more all.1 zip.1)

module _ {X Y : Type 0} (R : X → Y → Type 0) (number : X → ℕ) (other : Y → ℕ)
    (same : (x : X) (y : Y) → R x y → number x ≡ other y) where
  above : (n m : ℕ) (P : Y → Type 0) (ys : List Y) → ((y : Y) → P y → other y ≡ m)
      → AllByRecursion (λ y. n < other y) ys → Has P ys → n < m
  above n m P [] is all has = absurd has
  above n m P (y ∷ ys) is all (inl here) = omega (arith, all.0, is y here)
  above n m P (y ∷ ys) is all (inr rest) = above n m P ys is all.1 rest

  above-too : (n m : ℕ) (P : X → Type 0) (xs : List X) → ((x : X) → P x → number x ≡ m)
      → AllByRecursion (λ x. n < number x) xs → Has P xs → n < m
  above-too n m P [] is all has = absurd has
  above-too n m P (x ∷ xs) is all (inl here) = omega (arith, all.0, is x here)
  above-too n m P (x ∷ xs) is all (inr rest) = above-too n m P xs is all.1 rest

  first-goes : (x : X) (y : Y) (xs : List X) (ys : List Y) → AllByRecursion (λ z. number x < number z) xs
      → AllByRecursion (λ z. other y < other z) ys → R x y ⊎ Has (R x) ys → R x y ⊎ Has (λ z. R z y) xs → R x y
  first-goes x y xs ys up up' (inl here) back = here
  first-goes x y xs ys up up' (inr rest) (inl here) = here
  first-goes x y xs ys up up' (inr rest) (inr rest') =
      let more = above (other y) (number x) (R x) ys (λ z goes. sym (same x z goes)) up' rest in
      let less = above-too (number x) (other y) (λ z. R z y) xs (λ z goes. same z y goes) up rest' in
      absurd (omega (arith, more, less))

  rest-goes : (x : X) (y : Y) (xs : List X) (ys : List Y) → R x y → AllByRecursion (λ z. number x < number z) xs
      → AllByRecursion (λ z. R z y ⊎ Has (R z) ys) xs → AllByRecursion (λ z. Has (R z) ys) xs
  rest-goes x y [] ys goes up all = tt
  rest-goes x y (z ∷ xs) ys goes up all = (
    elim all.0 [
      | inl here ↦ absurd (omega (arith, up.0, same x y goes, same z y here))
      | inr rest ↦ rest
    ],
    rest-goes x y xs ys goes up.1 all.1,
  )

  rest-goes-too : (x : X) (y : Y) (xs : List X) (ys : List Y) → R x y → AllByRecursion (λ z. other y < other z) ys
      → AllByRecursion (λ z. R x z ⊎ Has (λ w. R w z) xs) ys → AllByRecursion (λ z. Has (λ w. R w z) xs) ys
  rest-goes-too x y xs [] goes up all = tt
  rest-goes-too x y xs (z ∷ ys) goes up all = (
    elim all.0 [
      | inl here ↦ absurd (omega (arith, up.0, same x y goes, same x z here))
      | inr rest ↦ rest
    ],
    rest-goes-too x y xs ys goes up.1 all.1,
  )

  -- lists by number go together where each goes with one of the others
  pub go-together : (xs : List X) (ys : List Y) → AscendBy number xs → AscendBy other ys
      → AllByRecursion (λ x. Has (R x) ys) xs → AllByRecursion (λ y. Has (λ x. R x y) xs) ys → AllZip R xs ys
  go-together [] [] up up' forth back = tt
  go-together [] (y ∷ ys) up up' forth back = absurd back.0
  go-together (x ∷ xs) [] up up' forth back = absurd forth.0
  go-together (x ∷ xs) (y ∷ ys) up up' forth back =
      let goes = first-goes x y xs ys up.0 up'.0 forth.0 back.0 in (
        goes,
        go-together xs ys up.1 up'.1 (rest-goes x y xs ys goes up.0 forth.1) (rest-goes-too x y xs ys goes up'.0 back.1),
      )
