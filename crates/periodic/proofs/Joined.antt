-- What holds of the members of joined lists, and spots that are apart from one another.
use Rattle.std.proofs.Common.{List, [], ◌∷◌, ◌++◌, map, inl, inr}
use Rattle.std.specs.List.{AllByRecursion}
use Rattle.periodic.specs.declared.placement.Spot.{Spot}
use Rattle.periodic.specs.Table.{IsApart, AreApart}

module _ {X : Type 0} where
  -- what holds of both lists holds of them joined
  pub all-append : (P : X → Type 0) (xs ys : List X) → AllByRecursion P xs → AllByRecursion P ys
      → AllByRecursion P (xs ++ ys)
  all-append P [] ys left right = right
  all-append P (x ∷ xs) ys left right = (left.0, all-append P xs ys left.1 right)

  -- and the other way round
  pub all-left : (P : X → Type 0) (xs ys : List X) → AllByRecursion P (xs ++ ys) → AllByRecursion P xs
  all-left P [] ys all = tt
  all-left P (x ∷ xs) ys all = (all.0, all-left P xs ys all.1)

  -- what is so of all of two lists joined is so of the second
  pub all-right : (P : X → Type 0) (xs ys : List X) → AllByRecursion P (xs ++ ys) → AllByRecursion P ys
  all-right P [] ys all = all
  all-right P (x ∷ xs) ys all = all-right P xs ys all.1

  -- what follows at each
  pub all-weaker : (P Q : X → Type 0) → ((x : X) → P x → Q x) → (xs : List X) → AllByRecursion P xs
      → AllByRecursion Q xs
  all-weaker P Q gives [] all = tt
  all-weaker P Q gives (x ∷ xs) all = (gives x all.0, all-weaker P Q gives xs all.1)

  -- what follows from two facts at each
  pub all-both : (P Q R : X → Type 0) → ((x : X) → P x → Q x → R x) → (xs : List X) → AllByRecursion P xs
      → AllByRecursion Q xs → AllByRecursion R xs
  all-both P Q R gives [] all also = tt
  all-both P Q R gives (x ∷ xs) all also = (gives x all.0 also.0, all-both P Q R gives xs all.1 also.1)

  -- what each is to all others, they are to it
  pub all-turned : (R S : X → X → Type 0) → ((x y : X) → R x y → S y x) → (xs ys : List X)
      → AllByRecursion (λ x. AllByRecursion (R x) ys) xs → AllByRecursion (λ y. AllByRecursion (S y) xs) ys
  all-turned R S turn xs [] all = tt
  all-turned R S turn xs (y ∷ ys) all = (
    all-weaker (λ x. AllByRecursion (R x) (y ∷ ys)) (S y) (λ x both. turn x y both.0) xs all,
    all-turned R S turn xs ys
        (all-weaker (λ x. AllByRecursion (R x) (y ∷ ys)) (λ x. AllByRecursion (R x) ys) (λ x both. both.1) xs all),
  )

-- what holds of what each stands for holds of all these
pub all-map : {X Y : Type 0} (P : Y → Type 0) (h : X → Y) (xs : List X) → AllByRecursion (λ x. P (h x)) xs
    → AllByRecursion P (map h xs)
all-map P h [] all = tt
all-map P h (x ∷ xs) all = (all.0, all-map P h xs all.1)

-- apart either way round
pub turned : (s t : Spot) → IsApart s t → IsApart t s
turned s t (inl before) = inr before
turned s t (inr after) = inl after

-- two lists of spots apart, and apart from each other
pub apart-append : (xs ys : List Spot) → AreApart xs → AreApart ys
    → AllByRecursion (λ s. AllByRecursion (IsApart s) ys) xs → AreApart (xs ++ ys)
apart-append [] ys left right between = right
apart-append (x ∷ xs) ys left right between =
    (all-append (IsApart x) xs ys left.0 between.0, apart-append xs ys left.1 right between.1)

-- and the other way round
pub apart-left : (xs ys : List Spot) → AreApart (xs ++ ys) → AreApart xs
apart-left [] ys apart = tt
apart-left (x ∷ xs) ys apart = (all-left (IsApart x) xs ys apart.0, apart-left xs ys apart.1)

-- of joined spots that are apart the second are
pub apart-right : (xs ys : List Spot) → AreApart (xs ++ ys) → AreApart ys
apart-right [] ys apart = apart
apart-right (x ∷ xs) ys apart = apart-right xs ys apart.1

-- of joined spots that are apart each of the first is apart from the second
pub apart-between : (xs ys : List Spot) → AreApart (xs ++ ys) → AllByRecursion (λ s. AllByRecursion (IsApart s) ys) xs
apart-between [] ys apart = tt
apart-between (x ∷ xs) ys apart = (all-right (IsApart x) xs ys apart.0, apart-between xs ys apart.1)
