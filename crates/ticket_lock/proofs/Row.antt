-- The words of the table through the steps of the seats.
use Rattle.std.proofs.Common.{◌≡◌, ◌≢◌, ℕ, ◌+◌, ◌%◌, ◌^◌, ◌<◌, ◌≤◌, List, length, set, sym, ap, ◌∙◌, subst}
use Rattle.std.proofs.Common.{⊎_elim, arith, length-set}
use Rattle.std.specs.Prelude.{slice_index}
use Rattle.std.proofs.Math.Nat.{mod-add-mod}
use Rattle.std.proofs.lemmas.Bool.{cases_eq}
use Rattle.std.proofs.lemmas.List.{get_or-set_same, get_or-set_other}
use Rattle.ticket_core.specs.declared.SeatState.TheVariants.{Waiting}
use Rattle.ticket_core.specs.LockWorld.{LockWorld, state_of, IsLawful}
use Rattle.ticket_core.specs.Grants.{grant_of}
use Rattle.ticket_core.proofs.Grants.{grant_of-served, grant_of-other, grant_of-tells}
use Rattle.ticket_lock.specs.Row.{place_of, WordsStand}

-- a ticket's word is that of its residue
pub place_of-residue : (t : ℕ) → place_of (t % 2 ^ 64) ≡ place_of t
place_of-residue t = omega arith

-- it is that of its index
place_of-index : (t : ℕ) → place_of (t % 64) ≡ place_of t
place_of-index t = omega arith

-- it is in the table, not the first word, and the first of a line
pub place_of-within : (t : ℕ) → place_of t < 520
place_of-within t = omega arith

-- the word of a ticket is never the first, which has the ticket that is drawn next
pub place_of-first : (t : ℕ) → place_of t ≢ 0
place_of-first t = λ e. omega arith

-- and it begins a cache line of eight words
pub place_of-line : (t : ℕ) → place_of t % 8 ≡ 0
place_of-line t = omega arith

-- two indices have two words
pub place_of-apart : (i j : ℕ) → i < 64 → j < 64 → place_of i ≡ place_of j → i ≡ j
place_of-apart i j below also same = omega arith

module _ (w after : LockWorld) (words : List ℕ) (r : WordsStand w words) where
  -- words that stand for a world stand for one with the same two tickets
  pub WordsStand-same : after.next ≡ w.next → after.served ≡ w.served → WordsStand after words
  WordsStand-same next served = record {
    count = r.count;
    next = r.next ∙ ap (λ (n : ℕ). n % 2 ^ 64) (sym next);
    grants = λ i below. r.grants i below ∙ ap (λ (n : ℕ). grant_of n i) (sym served);
    between = r.between;
  }

  -- a draw moves the first word
  pub WordsStand-drawn : after.next ≡ w.next + 1 → after.served ≡ w.served
      → WordsStand after (set words 0 ((slice_index words 0 + 1) % 2 ^ 64))
  WordsStand-drawn next served =
      let new : ℕ = (slice_index words 0 + 1) % 2 ^ 64 in record {
        count = length-set words 0 new ∙ r.count;
        next = get_or-set_same words 0 new 0 (omega (arith, r.count))
            ∙ ap (λ (n : ℕ). (n + 1) % 2 ^ 64) r.next ∙ mod-add-mod w.next (2 ^ 64) 1
            ∙ ap (λ (n : ℕ). n % 2 ^ 64) (sym next);
        grants = λ i below. get_or-set_other words 0 (place_of i) new 0 (place_of-first i)
            ∙ r.grants i below ∙ ap (λ (n : ℕ). grant_of n i) (sym served);
        between = λ k below off. get_or-set_other words 0 k new 0 (λ e. off (ap (λ (n : ℕ). n % 8) e))
            ∙ r.between k below off;
      }

  module _ (t : ℕ) (is : t ≡ w.served) (next : after.next ≡ w.next) (served : after.served ≡ w.served + 1) where
    -- a leave moves the word of the ticket after the one served
    left_grant : (i : ℕ) → i < 64
        → slice_index (set words (place_of (t + 1)) ((t + 1) % 2 ^ 64)) (place_of i) ≡ grant_of after.served i
    left_grant i below =
        let later : t + 1 ≡ after.served = omega arith in
        ⊎_elim
        (λ (e : i ≡ (t + 1) % 64).
        ap (λ (n : ℕ). slice_index (set words (place_of (t + 1)) ((t + 1) % 2 ^ 64)) n)
        (ap place_of e ∙ place_of-index (t + 1))
        ∙ get_or-set_same words (place_of (t + 1)) ((t + 1) % 2 ^ 64) 0
        (subst (λ (n : ℕ). place_of (t + 1) < n) (sym r.count) (place_of-within (t + 1)))
        ∙ sym (grant_of-served (t + 1))
        ∙ ap (grant_of (t + 1)) (sym e) ∙ ap (λ (n : ℕ). grant_of n i) later)
        (λ (n : i ≢ (t + 1) % 64).
        get_or-set_other words (place_of (t + 1)) (place_of i) ((t + 1) % 2 ^ 64) 0
        (λ e. n (place_of-apart i ((t + 1) % 64) below (omega arith) (e ∙ sym (place_of-index (t + 1)))))
        ∙ r.grants i below ∙ ap (λ (m : ℕ). grant_of m i) (sym is)
        ∙ sym (grant_of-other t i below n) ∙ ap (λ (m : ℕ). grant_of m i) later)
        (cases_eq i ((t + 1) % 64))

    -- the words of the row stand for the world once the turn with this ticket is left
    pub WordsStand-left : WordsStand after (set words (place_of (t + 1)) ((t + 1) % 2 ^ 64))
    WordsStand-left =
        let new : ℕ = (t + 1) % 2 ^ 64 in
        let here : ℕ = place_of (t + 1) in record {
          count = length-set words here new ∙ r.count;
          next = get_or-set_other words here 0 new 0 (λ e. place_of-first (t + 1) (sym e))
              ∙ r.next ∙ ap (λ (n : ℕ). n % 2 ^ 64) (sym next);
          grants = left_grant;
          between = λ k below off. get_or-set_other words here k new 0
              (λ e. off (ap (λ (n : ℕ). n % 8) e ∙ place_of-line (t + 1)))
              ∙ r.between k below off;
        }

-- a seat that waits finds its ticket in its word exactly where it is served
pub WordsStand-tell : (w : LockWorld) (words : List ℕ) → WordsStand w words → IsLawful w → length w.seats ≤ 64
    → (seat t : ℕ) → state_of w seat ≡ Waiting t
    → (slice_index words (place_of t) ≡ t % 2 ^ 64 → t ≡ w.served)
    × (t ≡ w.served → slice_index words (place_of t) ≡ t % 2 ^ 64)
WordsStand-tell w words r lawful few seat t waits =
    let found : slice_index words (place_of t) ≡ grant_of w.served (t % 64) =
    ap (slice_index words) (sym (place_of-index t)) ∙ r.grants (t % 64) (omega arith) in
    let told = grant_of-tells w lawful few seat t waits in
    ((λ e. told.0 (sym found ∙ e)), (λ e. found ∙ told.1 e))
