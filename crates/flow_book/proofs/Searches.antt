-- What a binary search finds among flows, and what else has numbers, in order of SID.
use Rattle.std.proofs.Common.{◌≡◌, ◌≢◌, ◌∙◌, refl, sym, ap, ℕ, zero, suc, ◌<◌, ◌≤◌, ◌==◌, List, [], ◌∷◌, map, length}
use Rattle.std.proofs.Common.{get_or, nat_lt, nat_le, true, false, position, None, Some, Result, Ok, Err, inl, inr, arith}
use Rattle.std.specs.Result.{result_ok}
use Rattle.std.specs.List.{AllByRecursion, position_or_len}
use Rattle.std.specs.List.Sorted.{IsSearchInRange, IsBinarySearchResult, IsNonDecreasingBy, IsPartitionPoint}
use Rattle.std.specs.Ordering.{nat_cmp, ordering_index}
use Rattle.std.proofs.lemmas.Cmp.{ranked}
use Rattle.std.proofs.lemmas.Bool.{cases_lt}
use Rattle.std.proofs.lemmas.Bool.Decides.{nat_tests}
use Rattle.std.proofs.lemmas.List.Elements.{All-from_recursion}
use Rattle.std.proofs.lemmas.List.Sums.{position_or_len_is}
use Rattle.flow_book.specs.declared.flow.Flow.{Flow}
use Rattle.flow_book.specs.Entry.{live}
use Rattle.flow_book.specs.Book.{Ascend}
use Rattle.sched_calls.specs.Sids.{AscendBy}

-- where numbers ascend one before another is lower
pub rises : {X : Type 0} (number : X → ℕ) (xs : List X) (i j : ℕ) (d : X) → AscendBy number xs → i < j → j < length xs
    → number (get_or xs i d) < number (get_or xs j d)
rises number [] i j d up lt within = absurd (omega arith)
rises number (x ∷ xs) i zero d up lt within = absurd (omega arith)
rises number (x ∷ xs) zero (suc j) d up lt within =
    All-from_recursion (λ y. number x < number y) xs up.0 j d (omega arith)
rises number (x ∷ xs) (suc i) (suc j) d up lt within = rises number xs i j d up.1 (omega arith) (omega arith)

module _ {X Y : Type 0} (h : X → Y) where
  all-of : (P : Y → Type 0) (xs : List X) → AllByRecursion P (map h xs) → AllByRecursion (λ x. P (h x)) xs
  all-of P [] all = tt
  all-of P (x ∷ xs) all = (all.0, all-of P xs all.1)

  -- where the numbers of values ascend, those of the members do
  pub ascends-of : (number : Y → ℕ) (xs : List X) → AscendBy number (map h xs) → AscendBy (λ x. number (h x)) xs
  ascends-of number [] up = tt
  ascends-of number (x ∷ xs) up = (all-of (λ y. number (h x) < number y) xs up.0, ascends-of number xs up.1)

-- flows at higher places have higher SIDs
pub below : (items : List Flow) → Ascend (map live items) → (d : Flow) (i j : ℕ) → i < j → j < length items
    → (get_or items i d).sid < (get_or items j d).sid
below items up d i j = rises (λ f. f.sid) items i j d (ascends-of live (λ g. g.sid) items up)

module _ {X : Type 0} (number : X → ℕ) (xs : List X) (n : ℕ) (up : AscendBy number xs) (d : X) where
  -- the one with the number is the first
  pub found-first : (at : ℕ) → at < length xs → number (get_or xs at d) ≡ n
      → position (λ x. number x == n) xs ≡ Some at
  found-first at within same =
      let place : position_or_len (λ x. number x == n) xs ≡ at =
      position_or_len_is (λ x. number x == n) xs at d (omega arith)
      (λ k lt. let less = rises number xs k at d up lt within in grind (arith, nat_tests))
      (λ lt. grind (arith, nat_tests)) in
      let inside : position_or_len (λ x. number x == n) xs < length xs = omega arith in
      let is : position (λ x. number x == n) xs ≡ Some (position_or_len (λ x. number x == n) xs) =
      grind (arith, nat_tests) in
      is ∙ ap Some place

  -- and where none has it there is no first
  none-first : ((k : ℕ) → k < length xs → number (get_or xs k d) ≢ n) → position (λ x. number x == n) xs ≡ None
  none-first differ =
      let place : position_or_len (λ x. number x == n) xs ≡ length xs =
      position_or_len_is (λ x. number x == n) xs (length xs) d (omega arith)
      (λ k lt. let no' = differ k lt in grind (arith, nat_tests)) (λ lt. absurd (omega arith)) in
      grind (arith, nat_tests)

module _ {X : Type 0} (number : X → ℕ) where
  -- numbers that ascend do not descend
  pub not-falling : (xs : List X) → AscendBy number xs → IsNonDecreasingBy number xs
  not-falling xs up = λ i j d le lt. elim (cases_lt i j) [
    | inl less ↦ let low = rises number xs i j d up less lt in omega arith
    | inr more ↦ let same : i ≡ j = omega arith in omega (arith, ap (λ k. number (get_or xs k d)) same)
  ]

  -- where those of numbers up to one end, the first of a higher number stands
  pub parted : (xs : List X) (n at : ℕ) → at ≤ length xs
      → IsPartitionPoint (λ x. nat_le (number x) n ≡ true) (λ x. nat_le (number x) n ≡ false) xs at
      → at ≡ position_or_len (λ x. nat_lt n (number x)) xs
  parted [] n at within halves = omega arith
  parted (x ∷ xs) n at within halves =
      sym (position_or_len_is (λ y. nat_lt n (number y)) (x ∷ xs) at x within
      (λ k lt. let early = halves.0 k x (omega arith) lt in grind (arith, nat_tests))
      (λ lt. let late = halves.1 at x (omega arith) lt in grind (arith, nat_tests)))

  rise : (xs : List X) (n : ℕ) → AscendBy number xs → IsNonDecreasingBy (λ x. ordering_index (nat_cmp (number x) n)) xs
  rise xs n up = λ i j d le lt.
      let keys : number (get_or xs i d) ≤ number (get_or xs j d) = not-falling xs up i j d le lt in
      grind (arith, nat_tests)

  -- a binary search finds the place of the one with this number
  pub searched : (xs : List X) (n : ℕ) (r : Result ℕ ℕ) → AscendBy number xs
      → IsSearchInRange r (length xs) → IsBinarySearchResult (λ x. nat_cmp (number x) n) xs r
      → result_ok r ≡ position (λ x. number x == n) xs
  searched [] n (Ok at) up within equal = absurd (omega arith)
  searched [] n (Err at) up within parted = refl
  searched (x ∷ xs) n (Ok at) up within equal =
      sym (found-first number (x ∷ xs) n up x at within (ranked _ n _ (sym (equal x))))
  searched (x ∷ xs) n (Err at) up within parted =
      let halves = parted (rise (x ∷ xs) n up) in
      sym (none-first number (x ∷ xs) n up x (λ k lt same. elim (cases_lt k at) [
        | inl less ↦ omega (arith, same, ranked _ n _ (sym (halves.0 k x (omega arith) less)))
        | inr more ↦ omega (arith, same, ranked _ n _ (sym (halves.1 k x more lt)))
      ]))
