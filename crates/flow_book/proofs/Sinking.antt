-- A member of a list moves behind those of lesser numbers that follow it.
use Rattle.std.proofs.Common.{◌≡◌, refl, ap, ◌∙◌, ℕ, zero, suc, ◌+◌, ◌<◌, ◌≤◌, List, [], ◌∷◌, length, get_or, set}
use Rattle.std.proofs.Common.{remove}
use Rattle.std.proofs.Common.{nat_lt, inl, inr, arith}
use Rattle.std.proofs.lemmas.Bool.{cond_both, cases_eq}
use Rattle.std.proofs.lemmas.Bool.Decides.{nat_tests}
use Rattle.std.proofs.lemmas.Grind.{get_or-set_at}
use Rattle.std.proofs.lemmas.List.{get_or-set_other, length-set}
use Rattle.flow_book.specs.declared.waiting.Waiting.{Waiting}
use Rattle.sched_calls.specs.Sids.{put_in}

-- where the next one is copied over it, the others are left without the next one
pub remove-next : (queue : List Waiting) (at : ℕ) (d : Waiting) → suc at < length queue
    → remove (set queue at (get_or queue (suc at) d)) (suc at) ≡ remove queue at
remove-next [] at d lt = absurd (omega arith)
remove-next (w ∷ []) at d lt = absurd (omega arith)
remove-next (w ∷ v ∷ queue) zero d lt = refl
remove-next (w ∷ v ∷ queue) (suc at) d lt = ap (λ ws. w ∷ ws) (remove-next (v ∷ queue) at d (omega arith))

-- Of a list the member at its first place has come to this one, where nothing is written yet: those before it are no
-- later than it
pub record HasSunk (first : ℕ) (old new : List Waiting) (turn at : ℕ) : Type 0 where
  pub within : at < length new
  pub left : remove new at ≡ remove old first
  pub before : (k : ℕ) (d : Waiting) → k < at → (get_or new k d).turn ≤ turn

-- it sinks by one place
pub sinks-more : (first : ℕ) (old new : List Waiting) (turn at : ℕ) (d : Waiting) → HasSunk first old new turn at
    → at + 1 < length new → (get_or new (at + 1) d).turn ≤ turn
    → HasSunk first old (set new at (get_or new (at + 1) d)) turn (at + 1)
sinks-more first old new turn at d is lt low =
    let next = get_or new (at + 1) d in
    let up : at + 1 ≡ suc at = omega arith in
    record {
      within = omega (arith, length-set new at next);
      left = rw up (remove-next new at d (omega arith) ∙ is.left);
      before = λ k e early. elim (cases_eq k at) [
        | inl same ↦ omega (arith, ap (λ (w : Waiting). w.turn) (get_or-set_at new at k next e same is.within))
        | inr differ ↦ omega (
          arith,
          ap (λ (w : Waiting). w.turn) (get_or-set_other new at k next e differ),
          is.before k e (omega (arith, differ)),
        )
      ];
    }

-- before one that is later it stands where it is put in
sunk : (queue : List Waiting) (at : ℕ) (w : Waiting) → at < length queue
    → ((k : ℕ) (d : Waiting) → k < at → (get_or queue k d).turn ≤ w.turn)
    → ((d : Waiting) → suc at < length queue → w.turn < (get_or queue (suc at) d).turn)
    → set queue at w ≡ put_in (λ v. v.turn) w (remove queue at)
sunk [] at w lt before after = absurd (omega arith)
sunk (v ∷ []) zero w lt before after = refl
sunk (v ∷ u ∷ queue) zero w lt before after =
    cond_both (nat_lt w.turn u.turn) (w ∷ u ∷ queue) (u ∷ put_in (λ x. x.turn) w queue) (λ ws. w ∷ u ∷ queue ≡ ws)
    (λ low. refl)
    (λ high. let lower : w.turn < u.turn = after v (omega arith) in absurd (grind (arith, nat_tests)))
sunk (v ∷ queue) (suc at) w lt before after =
    cond_both (nat_lt w.turn v.turn) (w ∷ v ∷ remove queue at) (v ∷ put_in (λ x. x.turn) w (remove queue at))
    (λ ws. v ∷ set queue at w ≡ ws)
    (λ low. let higher : v.turn ≤ w.turn = before 0 v (omega arith) in absurd (grind (arith, nat_tests)))
    (λ high. ap (λ ws. v ∷ ws) (sunk queue at w (omega arith) (λ k d early. before (suc k) d (omega arith))
    (λ d more. after d (omega arith))))

-- and so it is where all behind it are
pub has-sunk : (first : ℕ) (old new : List Waiting) (at : ℕ) (w : Waiting) → HasSunk first old new w.turn at
    → ((d : Waiting) → at + 1 < length new → w.turn < (get_or new (at + 1) d).turn)
    → set new at w ≡ put_in (λ v. v.turn) w (remove old first)
has-sunk first old new at w is after =
    let up : at + 1 ≡ suc at = omega arith in
    sunk new at w is.within is.before (λ d more. rw up at (after d (omega arith))) ∙ ap (put_in (λ v. v.turn) w) is.left
