-- The Reserves that are left where some places are met, and the places of those that wait.
use Rattle.std.proofs.Common.{◌≡◌, ℕ, zero, suc, Bool, true, false, List, [], ◌∷◌, map, take, length}
use Rattle.std.proofs.Common.{◌≤◌, Some, slice_get, refl, ap, arith}
use Rattle.std.specs.List.{AllByRecursion}
use Rattle.std.proofs.lemmas.Bool.{cond_both}
use Rattle.sched_calls.specs.declared.opportunity.Opportunity.{Opportunity}
use Rattle.sched_history.specs.declared.scheduler.reserves.Reserve.{Reserve}
use Rattle.sched_history.specs.Reserves.{left_by, unmarked, waiting_in}

-- where the tests agree the same are left
pub left_by-same : (test other : ℕ → Bool) (rs : List Reserve) → ((k : ℕ) → test k ≡ other k)
    → left_by test rs ≡ left_by other rs
left_by-same test other [] same = refl
left_by-same test other (r ∷ rs) same = rw (
  same 0,
  left_by-same (λ k. test (suc k)) (λ k. other (suc k)) rs (λ k. same (suc k)),
) refl

-- where no place is met all are left
pub left_by-none : (test : ℕ → Bool) (rs : List Reserve) → ((k : ℕ) → test k ≡ false) → left_by test rs ≡ rs
left_by-none test [] none = refl
left_by-none test (r ∷ rs) none =
    rw (none 0) (ap (λ xs. r ∷ xs) (left_by-none (λ k. test (suc k)) rs (λ k. none (suc k))))

unmarked-all : (test : ℕ → Bool) (rs : List Reserve) → ((k : ℕ) → test k ≡ true → ⊥) → left_by test rs ≡ rs
unmarked-all test rs never = left_by-none test rs (λ k. isnt (test k) (never k))
  where
    isnt : (b : Bool) → (b ≡ true → ⊥) → b ≡ false
    isnt true never = absurd (never refl)
    isnt false never = refl

marked : (b test : Bool) → (b ≡ true → test ≡ true) → (test ≡ true → b ≡ true) → test ≡ b
marked true test there back = there refl
marked false true there back = absurd (let is = back refl in cc)
marked false false there back = refl

-- where marks stand at the places at which the test holds, what is left is unmarked
pub left_by-unmarked : (test : ℕ → Bool) (met : List Bool) (rs : List Reserve)
    → ((k : ℕ) → slice_get met k ≡ Some true → test k ≡ true)
    → ((k : ℕ) → test k ≡ true → slice_get met k ≡ Some true) → left_by test rs ≡ unmarked met rs
left_by-unmarked test [] rs there back = unmarked-all test rs (λ k is. let none = back k is in cc)
left_by-unmarked test (b ∷ met) [] there back = refl
left_by-unmarked test (b ∷ met) (r ∷ rs) there back =
    let same : test 0 ≡ b = marked b (test 0) (λ is. there 0 (ap Some is)) (λ is. let says = back 0 is in cc) in
    let rest : left_by (λ k. test (suc k)) rs ≡ unmarked met rs =
    left_by-unmarked (λ k. test (suc k)) met rs (λ k. there (suc k)) (λ k. back (suc k)) in
    rw (same, rest) refl

-- what holds of each Reserve holds of those that are left
pub all-left_by : (P : Reserve → Type 0) (test : ℕ → Bool) (rs : List Reserve) → AllByRecursion P rs
    → AllByRecursion P (left_by test rs)
all-left_by P test [] all = tt
all-left_by P test (r ∷ rs) all =
    let rest = all-left_by P (λ k. test (suc k)) rs all.1 in
    cond_both (test 0) (left_by (λ k. test (suc k)) rs) (r ∷ left_by (λ k. test (suc k)) rs) (AllByRecursion P)
    (λ is. rest) (λ isnt. (all.0, rest))

-- and no more are left
pub length-left_by : (test : ℕ → Bool) (rs : List Reserve) → length (left_by test rs) ≤ length rs
length-left_by test [] = omega arith
length-left_by test (r ∷ rs) =
    let rest : length (left_by (λ k. test (suc k)) rs) ≤ length rs = length-left_by (λ k. test (suc k)) rs in
    cond_both (test 0) (left_by (λ k. test (suc k)) rs) (r ∷ left_by (λ k. test (suc k)) rs)
    (λ left. length left ≤ length (r ∷ rs)) (λ is. omega arith) (λ isnt. omega arith)

-- a Reserve that stands at a place, and asks for this
pub record AsksAt (rs : List Reserve) (place : ℕ) (o : Opportunity) : Type 0 where
  pub reserve : Reserve
  pub stands : slice_get rs place ≡ Some reserve
  pub asks : reserve.opportunity ≡ o

asks-at : (n k : ℕ) (rs : List Reserve) (o : Opportunity)
    → slice_get (map (λ r. r.opportunity) (take n rs)) k ≡ Some o → AsksAt rs k o
asks-at zero k rs o is = absurd (cc)
asks-at (suc n) k [] o is = absurd (cc)
asks-at (suc n) zero (r ∷ rs) o is =
    record { reserve = r; stands = refl; asks = cc }
asks-at (suc n) (suc k) (r ∷ rs) o is =
    let rest = asks-at n k rs o is in record { reserve = rest.reserve; stands = rest.stands; asks = rest.asks }

-- what waits at a place is asked for by the Reserve that stands there
pub waiting-asks : (rs : List Reserve) (place : ℕ) (o : Opportunity) → slice_get (waiting_in rs) place ≡ Some o
    → AsksAt rs place o
waiting-asks rs place o is = asks-at 16 place rs o is
