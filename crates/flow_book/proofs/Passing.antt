-- One of the queue moves behind those that it passes: they want nothing, or are no later.
use Rattle.std.proofs.Common.{◌≡◌, refl, sym, ap, ◌∙◌, ℕ, zero, suc, ◌+◌, ◌<◌, ◌≤◌, Bool, true, false}
use Rattle.std.proofs.Common.{List, [], ◌∷◌, filter, length, get_or, set, insert, remove, nat_lt, inl, inr, cond, arith}
use Rattle.std.proofs.lemmas.Bool.{cases_eq, cases_Bool}
use Rattle.std.proofs.lemmas.Bool.Decides.{nat_tests}
use Rattle.std.proofs.lemmas.Grind.{get_or-set_at}
use Rattle.std.proofs.lemmas.List.{get_or-set_other, length-set}
use Rattle.std.proofs.lemmas.List.Edits.{length-remove, length-insert}
use Rattle.flow_book.specs.declared.waiting.Waiting.{Waiting}
use Rattle.flow_book.specs.Queue.{still_waits, is_passed, HasPassed, StandsBehind}
use Rattle.sched_calls.specs.Sids.{AscendBy}
use Rattle.flow_book.proofs.Queues.{with-one}
use Rattle.flow_book.proofs.Sinking.{remove-next}
use Rattle.flow_book.proofs.StillWaiting.{kept-at, gone-kept}

-- it passes one more
pub passes-more : (first : ℕ) (old new : List Waiting) (turn at : ℕ) (d : Waiting) → HasPassed first old new turn at
    → at + 1 < length new → is_passed turn (get_or new (at + 1) d) ≡ true
    → HasPassed first old (set new at (get_or new (at + 1) d)) turn (at + 1)
passes-more first old new turn at d is lt low =
    let next = get_or new (at + 1) d in
    let up : at + 1 ≡ suc at = omega arith in
    record {
      within = omega (arith, length-set new at next);
      behind = omega (arith, is.behind);
      left = rw up (remove-next new at d (omega arith) ∙ is.left);
      before = λ k e early. elim (cases_eq k at) [
        | inl same ↦ ap (is_passed turn) (get_or-set_at new at k next e same is.within) ∙ low
        | inr differ ↦ ap (is_passed turn) (get_or-set_other new at k next e differ)
            ∙ is.before k e (omega (arith, differ))
      ];
    }

passed-idle : (turn : ℕ) (v : Waiting) → still_waits v ≡ true → is_passed turn v ≡ true → v.turn ≤ turn
passed-idle turn v still passed = grind (arith, nat_tests, still, passed)

kept-passed : (turn : ℕ) (v : Waiting) → is_passed turn v ≡ false → (still_waits v ≡ true) × (turn < v.turn)
kept-passed turn v kept =
    let waits : still_waits v ≡ true = grind (arith, nat_tests, kept) in
    let late : turn < v.turn = grind (arith, nat_tests, kept) in (waits, late)

put-first : (w v : Waiting) (ws : List Waiting) → w.turn < v.turn → with-one w (v ∷ ws) ≡ w ∷ v ∷ ws
put-first w v ws lt = let low : nat_lt w.turn v.turn ≡ true = grind (arith, nat_tests) in rw low refl

put-later : (w v : Waiting) (ws : List Waiting) → v.turn ≤ w.turn → with-one w (v ∷ ws) ≡ v ∷ with-one w ws
put-later w v ws le = let high : nat_lt w.turn v.turn ≡ false = grind (arith, nat_tests) in rw high refl

-- where one comes to stand before one that it does not pass, those that still wait stand by their turns
passed-put : (queue : List Waiting) (at : ℕ) (w : Waiting) → still_waits w ≡ true → at < length queue
    → ((k : ℕ) (d : Waiting) → k < at → is_passed w.turn (get_or queue k d) ≡ true)
    → ((d : Waiting) → suc at < length queue → is_passed w.turn (get_or queue (suc at) d) ≡ false)
    → filter still_waits (set queue at w) ≡ with-one w (filter still_waits (remove queue at))
passed-put [] at w still lt before after = absurd (omega arith)
passed-put (v ∷ []) zero w still lt before after = rw still refl
passed-put (v ∷ u ∷ queue) zero w still lt before after =
    let kept = kept-passed w.turn u (after v (omega arith)) in
    rw (still, kept.0) (sym (put-first w u (filter still_waits queue) kept.1))
passed-put (v ∷ queue) (suc at) w still lt before after =
    let rest = passed-put queue at w still (omega arith) (λ k d early. before (suc k) d (omega arith))
    (λ d more. after d (omega arith)) in
    elim (cases_Bool (still_waits v)) [
      | inl waits ↦ (
          let le = passed-idle w.turn v waits (before 0 v (omega arith)) in
          rw waits (ap (λ ws. v ∷ ws) rest ∙ sym (put-later w v (filter still_waits (remove queue at)) le)))
      | inr idle ↦ rw idle rest
    ]

set-inserts : (queue : List Waiting) (i : ℕ) (w : Waiting) → i < length queue
    → set queue i w ≡ insert (remove queue i) i w
set-inserts [] i w lt = absurd (omega arith)
set-inserts (v ∷ queue) zero w lt = set-zero v queue w
  where
    set-zero : (v : Waiting) (queue : List Waiting) (w : Waiting) → set (v ∷ queue) 0 w ≡ insert queue 0 w
    set-zero v [] w = refl
    set-zero v (u ∷ queue) w = refl
set-inserts (v ∷ queue) (suc i) w lt = ap (λ ws. v ∷ ws) (set-inserts queue i w (omega arith))

-- it stands behind those that it passed
pub has-passed : (first : ℕ) (old new : List Waiting) (at : ℕ) (w : Waiting) → first < length old
    → HasPassed first old new w.turn at → still_waits w ≡ true
    → ((d : Waiting) → at + 1 < length new → is_passed w.turn (get_or new (at + 1) d) ≡ false)
    → StandsBehind first w old (set new at w)
has-passed first old new at w lt is still after =
    let up : at + 1 ≡ suc at = omega arith in
    let put = passed-put new at w still is.within is.before (λ d more. rw up at (after d (omega arith))) in
    record {
      at = at;
      behind = is.behind;
      within = omega (arith, ap length is.left, length-remove new at is.within, length-remove old first lt, is.within);
      is = set-inserts new at w is.within ∙ ap (λ ws. insert ws at w) is.left;
      still = put ∙ ap (λ ws. with-one w (filter still_waits ws)) is.left
          ∙ sym (ap (λ b. cond b (with-one w (filter still_waits (remove old first)))
          (filter still_waits (remove old first))) still);
    }

-- one that wants nothing any more stays where it stood
pub stays-behind : (queue : List Waiting) (i : ℕ) (w : Waiting) → i < length queue → still_waits w ≡ false
    → StandsBehind i w queue (set queue i w)
stays-behind queue i w lt idle = record {
  at = i;
  behind = omega arith;
  within = omega (arith, length-remove queue i lt);
  is = set-inserts queue i w lt;
  still = gone-kept still_waits queue i w lt idle
      ∙ sym (ap (λ b. cond b (with-one w (filter still_waits (remove queue i))) (filter still_waits (remove queue i))) idle);
}

-- of those that still wait one that stands before another is earlier
pub earlier-still : (queue : List Waiting) (k i : ℕ) (d : Waiting) → AscendBy (λ w. w.turn) (filter still_waits queue)
    → k < i → i < length queue → still_waits (get_or queue k d) ≡ true → still_waits (get_or queue i d) ≡ true
    → (get_or queue k d).turn < (get_or queue i d).turn
earlier-still [] k i d up early lt still still' = absurd (omega arith)
earlier-still (v ∷ queue) k zero d up early lt still still' = absurd (omega arith)
earlier-still (v ∷ queue) zero (suc i) d up early lt still still' =
    let later = (rw still at up).0 in
    kept-at (λ u. v.turn < u.turn) still_waits queue i d (omega arith) still' later
earlier-still (v ∷ queue) (suc k) (suc i) d up early lt still still' =
    earlier-still queue k i d (ascends-rest (still_waits v) v (filter still_waits queue) up) (omega arith) (omega arith)
    still still'
  where
    ascends-rest : (b : Bool) (v : Waiting) (ws : List Waiting) → AscendBy (λ w. w.turn) (cond b (v ∷ ws) ws)
        → AscendBy (λ w. w.turn) ws
    ascends-rest true v ws up = up.1
    ascends-rest false v ws up = up

passed-early : (turn : ℕ) (v : Waiting) → (still_waits v ≡ true → v.turn ≤ turn) → is_passed turn v ≡ true
passed-early turn v early = elim (cases_Bool (still_waits v)) [
  | inl waits ↦ (let le : v.turn ≤ turn = early waits in grind (arith, nat_tests, waits))
  | inr idle ↦ grind (arith, nat_tests, idle)
]

-- so it passes those before it
pub passes-before : (queue : List Waiting) (k i : ℕ) (d w : Waiting) (turn : ℕ)
    → AscendBy (λ v. v.turn) (filter still_waits queue) → k < i → i < length queue → get_or queue i d ≡ w
    → still_waits w ≡ true → w.turn ≤ turn → is_passed turn (get_or queue k d) ≡ true
passes-before queue k i d w turn up early lt here still late =
    passed-early turn (get_or queue k d) (λ waits.
    let less = earlier-still queue k i d up early lt waits (ap still_waits here ∙ still) in
    omega (arith, less, ap (λ (v : Waiting). v.turn) here, late))

-- as many stand in the queue
pub behind-length : (i : ℕ) (w : Waiting) (old new : List Waiting) → i < length old → StandsBehind i w old new
    → length new ≡ length old
behind-length i w old new lt is =
    omega (
      arith,
      ap length is.is,
      length-insert (remove old i) is.at w is.within,
      length-remove old i lt,
    )
