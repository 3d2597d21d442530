-- The least number at which a test holds.
use Rattle.std.proofs.Common.{◌≡◌, ℕ, zero, suc, ◌<◌, Bool, true, false, cond, List, [], ◌∷◌}
use Rattle.std.proofs.Common.{Option, Some, None, refl, inl, inr, arith}
use Rattle.std.specs.List.{AllByRecursion}
use Rattle.std.specs.Option.{option_map, option_or}
use Rattle.std.proofs.lemmas.Bool.{cases_lt}
use Rattle.map_codec.specs.declared.fault.DecodeFault.{DecodeFault}
use Rattle.map_codec.specs.DecodeFault.{least, first_of}

-- where the test holds nowhere, there is none
pub least_none : (test : ℕ → Bool) (n : ℕ) → ((i : ℕ) → i < n → test i ≡ false) → least test n ≡ None
unfolding least
least_none test zero none = refl
least_none test (suc n) none =
    let below : least test n ≡ None = least_none test n (λ i lt. none i (omega arith)) in
    rw (below, none n (omega arith)) refl

-- two alternatives that are both nothing
pub none_of_both : {X : Type 0} (o p : Option X) → option_or o p ≡ None → (o ≡ None) × (p ≡ None)
none_of_both None p e = (refl, e)
none_of_both (Some x) p e = absurd cc

-- a test that gives nothing does not hold
pub none_if : {X : Type 0} (b : Bool) (x : X) → cond b (Some x) None ≡ None → b ≡ false
none_if true x e = absurd cc
none_if false x e = refl

-- alternatives of which the first that stands is nothing are all nothing
pub all_none : (os : List (Option DecodeFault)) → first_of os ≡ None → AllByRecursion (λ o. o ≡ None) os
all_none [] e = tt
all_none (o ∷ os) e = let both = none_of_both o (first_of os) e in (both.0, all_none os both.1)

-- nothing comes of nothing
pub none_of_map : {X Y : Type 0} (f : X → Y) (o : Option X) → option_map f o ≡ None → o ≡ None
none_of_map f None e = refl
none_of_map f (Some x) e = absurd cc

-- where there is none, the test holds nowhere
pub none_from_least : (test : ℕ → Bool) (n : ℕ) → least test n ≡ None → (i : ℕ) → i < n → test i ≡ false
unfolding least
none_from_least test zero e i lt = absurd (omega arith)
none_from_least test (suc n) e i lt =
    let parts = none_of_both (least test n) (cond (test n) (Some n) None) e in
    elim (cases_lt i n) [
      | inl less ↦ none_from_least test n parts.0 i less
      | inr le ↦ let same : i ≡ n = omega arith in rw same (none_if (test n) n parts.1)
    ]

-- nor does it where no fault is named after it
pub none_at : (fault : ℕ → DecodeFault) (test : ℕ → Bool) (n : ℕ) → option_map fault (least test n) ≡ None
    → (i : ℕ) → i < n → test i ≡ false
none_at fault test n e = none_from_least test n (none_of_map fault (least test n) e)

-- a number at which the test holds, and below which it does not
pub least_is : (test : ℕ → Bool) (n i : ℕ) → i < n → test i ≡ true
    → ((k : ℕ) → k < i → test k ≡ false) → least test n ≡ Some i
unfolding least
least_is test zero i lt here below = absurd (omega arith)
least_is test (suc n) i lt here below =
    elim (cases_lt i n) [
      | inl less ↦ rw (least_is test n i less here below) refl
      | inr le ↦
          let same : i ≡ n = omega arith in
          let none : least test n ≡ None = least_none test n (λ k h. below k (omega arith)) in
          rw (none, ← same, here) refl
    ]
