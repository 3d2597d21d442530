-- A list in order of SID with one member more, and any list with a member in the place of another.
use Rattle.std.proofs.Common.{◌≡◌, refl, ap, ℕ, suc, ◌+◌, ◌<◌, Bool, true, false, not, cond, ◌==◌, nat_lt, zero, set}
use Rattle.std.proofs.Common.{List, [], ◌∷◌, map, find, length, Option, Some, None, arith}
use Rattle.std.specs.List.{AllByRecursion, insert, position_or_len}
use Rattle.std.proofs.lemmas.Bool.{cond_both}
use Rattle.std.proofs.lemmas.Bool.Decides.{nat_tests}
use Rattle.sched_calls.specs.Sids.{AscendBy, put_in}

module _ {X Y : Type 0} (h : X → Y) where
  insert-cond : (b : Bool) (e x : X) (xs : List X) (ys : List Y) (n : ℕ) → map h (insert xs n e) ≡ ys
      → map h (insert (x ∷ xs) (cond (not b) (1 + n) 0) e) ≡ cond b (h e ∷ h x ∷ map h xs) (h x ∷ ys)
  insert-cond true e x xs ys n is = refl
  insert-cond false e x xs ys n is =
      let next : 1 + n ≡ suc n = omega arith in rw next (ap (λ zs. h x ∷ zs) is)

  -- to put a member before the first of a higher SID is to put it in, in order
  pub insert-put_in : (sid_of : Y → ℕ) (e : X) (xs : List X)
      → map h (insert xs (position_or_len (λ x. nat_lt (sid_of (h e)) (sid_of (h x))) xs) e)
      ≡ put_in sid_of (h e) (map h xs)
  insert-put_in sid_of e [] = refl
  insert-put_in sid_of e (x ∷ xs) =
      insert-cond (nat_lt (sid_of (h e)) (sid_of (h x))) e x xs (put_in sid_of (h e) (map h xs)) _
      (insert-put_in sid_of e xs)

module _ {X : Type 0} (sid_of : X → ℕ) where
  -- what holds of the new member and of the others holds of all
  pub all-put_in : (P : X → Type 0) (x : X) (xs : List X) → P x → AllByRecursion P xs
      → AllByRecursion P (put_in sid_of x xs)
  all-put_in P x [] here all = (here, tt)
  all-put_in P x (y ∷ ys) here all =
      cond_both (nat_lt (sid_of x) (sid_of y)) (x ∷ y ∷ ys) (y ∷ put_in sid_of x ys) (AllByRecursion P)
      (λ low. (here, all)) (λ high. (all.0, all-put_in P x ys here all.1))

  -- there is one member more
  pub length-put_in : (x : X) (xs : List X) → length (put_in sid_of x xs) ≡ suc (length xs)
  length-put_in x [] = refl
  length-put_in x (y ∷ ys) =
      cond_both (nat_lt (sid_of x) (sid_of y)) (x ∷ y ∷ ys) (y ∷ put_in sid_of x ys)
      (λ zs. length zs ≡ suc (suc (length ys))) (λ low. refl) (λ high. ap suc (length-put_in x ys))

  all-above : (m n : ℕ) (xs : List X) → m < n → AllByRecursion (λ x. n < sid_of x) xs
      → AllByRecursion (λ x. m < sid_of x) xs
  all-above m n [] lt all = tt
  all-above m n (x ∷ xs) lt all = (omega (arith, all.0), all-above m n xs lt all.1)

  absent-head : (b : Bool) (x : X) (r : Option X) → cond b (Some x) r ≡ None → (b ≡ false) × (r ≡ None)
  absent-head true x r none = absurd (cc)
  absent-head false x r none = (refl, none)

  -- with a member of a new SID the SIDs ascend
  pub ascends-put_in : (x : X) (xs : List X) → find (λ y. sid_of y == sid_of x) xs ≡ None → AscendBy sid_of xs
      → AscendBy sid_of (put_in sid_of x xs)
  ascends-put_in x [] none up = (tt, tt)
  ascends-put_in x (y ∷ ys) none up =
      let absent = absent-head (sid_of y == sid_of x) y (find (λ z. sid_of z == sid_of x) ys) none in
      cond_both (nat_lt (sid_of x) (sid_of y)) (x ∷ y ∷ ys) (y ∷ put_in sid_of x ys) (AscendBy sid_of)
      (λ low. let lt : sid_of x < sid_of y = grind (arith, nat_tests) in
      ((lt, all-above (sid_of x) (sid_of y) ys lt up.0), up))
      (λ high. let gt : sid_of y < sid_of x = grind (arith, nat_tests) in
      (all-put_in (λ z. sid_of y < sid_of z) x ys gt up.0, ascends-put_in x ys absent.1 up.1))

-- what holds of each, and of the one that is put in, holds of each then
pub all-set : {X : Type 0} (P : X → Type 0) (xs : List X) (i : ℕ) (x : X) → AllByRecursion P xs → P x
    → AllByRecursion P (set xs i x)
all-set P [] i x all here = tt
all-set P (y ∷ xs) zero x all here = (here, all.1)
all-set P (y ∷ xs) (suc i) x all here = (all.0, all-set P xs i x all.1 here)
