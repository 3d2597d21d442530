-- Some members of a list are left, the others taken out.
use Rattle.std.proofs.Common.{◌≡◌, refl, ◌∙◌, ℕ, suc, ◌<◌, ◌≤◌, Bool, true, false, cond}
use Rattle.std.proofs.Common.{List, [], ◌∷◌, map, filter, length, arith}
use Rattle.std.specs.List.{AllByRecursion}
use Rattle.std.proofs.lemmas.Bool.{cond_both}
use Rattle.sched_calls.specs.Sids.{AscendBy}

map-cond : {X Y : Type 0} (h : X → Y) (b : Bool) (x : X) (xs : List X) → map h (cond b (x ∷ xs) xs)
    ≡ cond b (h x ∷ map h xs) (map h xs)
map-cond h true x xs = refl
map-cond h false x xs = refl

-- to pick by a test of the values is to pick among the values
pub map-filter : {X Y : Type 0} (h : X → Y) (p : Y → Bool) (xs : List X) → map h (filter (λ x. p (h x)) xs)
    ≡ filter p (map h xs)
map-filter h p [] = refl
map-filter h p (x ∷ xs) = map-cond h (p (h x)) x (filter (λ x. p (h x)) xs) ∙ rw (map-filter h p xs)

module _ {X : Type 0} where
  -- what holds of each holds of each that is left
  pub all-filter : (P : X → Type 0) (p : X → Bool) (xs : List X) → AllByRecursion P xs → AllByRecursion P (filter p xs)
  all-filter P p [] all = tt
  all-filter P p (x ∷ xs) all =
      cond_both (p x) (x ∷ filter p xs) (filter p xs) (AllByRecursion P)
      (λ kept. (all.0, all-filter P p xs all.1)) (λ out. all-filter P p xs all.1)

  -- and they are no more than before
  pub fewer-filter : (p : X → Bool) (xs : List X) → length (filter p xs) ≤ length xs
  fewer-filter p [] = omega arith
  fewer-filter p (x ∷ xs) =
      let fewer = fewer-filter p xs in
      cond_both (p x) (x ∷ filter p xs) (filter p xs) (λ ys. length ys ≤ suc (length xs))
      (λ kept. omega arith) (λ out. omega arith)

  -- of ascending SIDs those that are left ascend
  pub ascends-filter : (sid_of : X → ℕ) (p : X → Bool) (xs : List X) → AscendBy sid_of xs
      → AscendBy sid_of (filter p xs)
  ascends-filter sid_of p [] up = tt
  ascends-filter sid_of p (x ∷ xs) up =
      cond_both (p x) (x ∷ filter p xs) (filter p xs) (AscendBy sid_of)
      (λ kept. (all-filter (λ y. sid_of x < sid_of y) p xs up.0, ascends-filter sid_of p xs up.1))
      (λ out. ascends-filter sid_of p xs up.1)
