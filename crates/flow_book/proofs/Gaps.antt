-- Many are put into a queue with a gap.
use Rattle.std.proofs.Common.{◌≡◌, refl, sym, ap, ◌∙◌, subst, ℕ, zero, suc, ◌+◌, ◌-◌, ◌<◌, ◌≤◌, true, false, nat_lt}
use Rattle.std.proofs.Common.{List, [], ◌∷◌, ◌++◌, take, drop, set, length, get_or, arith}
use Rattle.std.specs.List.{AllByRecursion}
use Rattle.std.proofs.lemmas.Bool.Decides.{nat_tests}
use Rattle.std.proofs.lemmas.List.{take-set-le, take_more, take-take}
use Rattle.std.proofs.lemmas.Grind.{drop-set_at}
use Rattle.flow_book.specs.declared.waiting.Waiting.{Waiting}
use Rattle.sched_calls.specs.Sids.{AscendBy}
use Rattle.flow_book.specs.Gap.{around}
use Rattle.flow_book.proofs.Order.{all-implied}
use Rattle.flow_book.proofs.Queues.{with-one}
use Rattle.flow_book.proofs.Serving.{all-here}
use Rattle.flow_book.proofs.StillWaiting.{all-joined}

-- one stands between those of turns no later and those of later ones
pub put-between : (w : Waiting) (front back : List Waiting) → AllByRecursion (λ v. v.turn ≤ w.turn) front
    → AllByRecursion (λ v. w.turn < v.turn) back → with-one w (front ++ back) ≡ front ++ w ∷ back
put-between w [] [] low high = refl
put-between w [] (v ∷ back) low high =
    let later : nat_lt w.turn v.turn ≡ true = let lt = high.0 in grind (arith, nat_tests) in rw later refl
put-between w (v ∷ front) back low high =
    let fails : nat_lt w.turn v.turn ≡ false = let le = low.0 in grind (arith, nat_tests) in
    rw fails (ap (λ ws. v ∷ ws) (put-between w front back low.1 high))

-- those before one of ascending turns are of earlier ones
pub before-here : (front : List Waiting) (w : Waiting) (back : List Waiting) → AscendBy (λ v. v.turn) (front ++ w ∷ back)
    → AllByRecursion (λ v. v.turn < w.turn) front
before-here [] w back up = tt
before-here (v ∷ front) w back up =
    (all-here (λ u. v.turn < u.turn) front w back up.0, before-here front w back up.1)

all-take : (P : Waiting → Type 0) (queue : List Waiting) (m n : ℕ) → m ≤ n → AllByRecursion P (take n queue)
    → AllByRecursion P (take m queue)
all-take P queue zero n le all = tt
all-take P [] (suc m) n le all = tt
all-take P (w ∷ queue) (suc m) zero le all = absurd (omega (arith, le))
all-take P (w ∷ queue) (suc m) (suc n) le all = (all.0, all-take P queue m n (omega (arith, le)) all.1)

-- those before an earlier place ascend too
pub ascends-take : (queue : List Waiting) (m n : ℕ) → m ≤ n → AscendBy (λ w. w.turn) (take n queue)
    → AscendBy (λ w. w.turn) (take m queue)
ascends-take queue zero n le up = tt
ascends-take [] (suc m) n le up = tt
ascends-take (w ∷ queue) (suc m) zero le up = absurd (omega (arith, le))
ascends-take (w ∷ queue) (suc m) (suc n) le up =
    (all-take (λ v. w.turn < v.turn) queue m n (omega (arith, le)) up.0, ascends-take queue m n (omega (arith, le)) up.1)

-- where the last of ascending turns before a place is no later none before it is
pub none-later : (queue : List Waiting) (first turn : ℕ) (v : Waiting) → first ≤ length queue
    → AscendBy (λ w. w.turn) (take first queue) → (0 < first → v ≡ get_or queue (first - 1) v)
    → (0 < first → v.turn ≤ turn) → AllByRecursion (λ w. w.turn ≤ turn) (take first queue)
none-later queue zero turn v within up is low = tt
none-later queue (suc first) turn v within up is low =
    let one-less : suc first - 1 ≡ first = omega arith in
    let here : v ≡ get_or queue first v = is (omega arith) ∙ ap (λ n. get_or queue n v) one-less in
    let one-more : suc first ≡ first + 1 = omega arith in
    let split : take (suc first) queue ≡ take first queue ++ v ∷ [] =
    ap (λ n. take n queue) one-more ∙ take_more queue first v (omega (arith, within))
    ∙ ap (λ w. take first queue ++ w ∷ []) (sym here) in
    let le = low (omega arith) in
    let early = before-here (take first queue) v [] (subst (AscendBy (λ w. w.turn)) split up) in
    subst (AllByRecursion (λ w. w.turn ≤ turn)) (sym split)
    (all-joined (λ w. w.turn ≤ turn) (take first queue) (v ∷ [])
    (all-implied (λ w. w.turn < v.turn) (λ w. w.turn ≤ turn) (take first queue) (λ w lt. omega (arith, lt, le)) early)
    (le, tt))

-- before an earlier place those of two are the same too
pub take-same : (xs ys : List Waiting) (m n : ℕ) → m ≤ n → take n xs ≡ take n ys → take m xs ≡ take m ys
take-same xs ys m n le same =
    sym (take-take m n xs le) ∙ ap (take m) same ∙ take-take m n ys le

-- one is written to the last place of a gap
module _ (queue : List Waiting) (first gap : ℕ) (w : Waiting) (within : first + gap ≤ length queue) (some : 0 < gap) where
  behind-gap : drop (first + (gap - 1)) (set queue (first + gap - 1) w) ≡ w ∷ drop (first + gap) queue
  behind-gap =
      let next : first + gap - 1 + 1 ≡ first + gap = omega (arith, some) in
      drop-set_at queue (first + gap - 1) (first + (gap - 1)) w (omega (arith, some)) (omega (arith, within, some))
      ∙ ap (λ n. w ∷ drop n queue) next

  pub put-last-place : around first (gap - 1) (set queue (first + gap - 1) w)
      ≡ take first queue ++ w ∷ drop (first + gap) queue
  put-last-place =
      ap (λ ws. ws ++ drop (first + (gap - 1)) (set queue (first + gap - 1) w))
      (take-set-le first queue (first + gap - 1) w (omega (arith, some)))
      ∙ ap (λ ws. take first queue ++ ws) behind-gap

  pub later-behind : AllByRecursion (λ v. w.turn < v.turn) (drop (first + gap) queue)
      → AllByRecursion (λ v. w.turn ≤ v.turn) (drop (first + (gap - 1)) (set queue (first + gap - 1) w))
  later-behind late =
      subst (AllByRecursion (λ v. w.turn ≤ v.turn)) (sym behind-gap) (
        omega arith,
        all-implied (λ v. w.turn < v.turn) (λ v. w.turn ≤ v.turn) (drop (first + gap) queue)
            (λ v lt. omega (arith, lt)) late,
      )
