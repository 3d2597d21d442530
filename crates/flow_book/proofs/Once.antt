-- Lists of those that wait in which each place stands once.
use Rattle.std.proofs.Common.{◌≢◌, refl, sym, ℕ, zero, suc, ◌<◌, ◌≤◌, inl, inr, List, [], ◌∷◌}
use Rattle.std.proofs.Common.{length, get_or, take, insert, remove, arith}
use Rattle.std.specs.List.{AllByRecursion}
use Rattle.std.proofs.lemmas.List.Elements.{All-from_recursion}
use Rattle.flow_book.specs.declared.flow.Flow.{Flow}
use Rattle.flow_book.specs.declared.waiting.Waiting.{Waiting}
use Rattle.flow_book.specs.Queue.{IsAt, IsIn, AreOnce}
use Rattle.sched_calls.specs.Sids.{AscendBy}
use Rattle.flow_book.proofs.Queues.{all-both, all-remove, same-turn}

module _ (items : List Flow) where
  later-once : (w : Waiting) (ws : List Waiting) → IsAt items w → AllByRecursion (IsAt items) ws
      → AllByRecursion (λ v. w.turn < v.turn) ws → AllByRecursion (λ v. v.place ≢ w.place) ws
  later-once w ws at each up =
      all-both (IsAt items) (λ v. w.turn < v.turn) (λ v. v.place ≢ w.place) ws
      (λ v at' less same. absurd (omega (arith, less, same-turn items v w at' at same))) each up

  -- by their turns each stands once
  pub by-turn-once : (ws : List Waiting) → AllByRecursion (IsAt items) ws → AscendBy (λ w. w.turn) ws → AreOnce ws
  by-turn-once [] each up = tt
  by-turn-once (w ∷ ws) each up = (later-once w ws each.0 each.1 up.0, by-turn-once ws each.1 up.1)

-- those that are left stand once
pub once-remove : (queue : List Waiting) (i : ℕ) → AreOnce queue → AreOnce (remove queue i)
once-remove [] zero once = tt
once-remove [] (suc i) once = tt
once-remove (w ∷ queue) zero once = once.1
once-remove (w ∷ queue) (suc i) once =
    (all-remove (λ v. v.place ≢ w.place) queue i once.0, once-remove queue i once.1)

-- and none of them at the place of the one that was taken out
pub once-alone : (queue : List Waiting) (i : ℕ) (d : Waiting) → i < length queue → AreOnce queue
    → AllByRecursion (λ v. v.place ≢ (get_or queue i d).place) (remove queue i)
once-alone [] i d lt once = absurd (omega arith)
once-alone (w ∷ queue) zero d lt once = once.0
once-alone (w ∷ queue) (suc i) d lt once =
    let other : (get_or queue i d).place ≢ w.place =
    All-from_recursion (λ v. v.place ≢ w.place) queue once.0 i d (omega arith) in
    ((λ same. other (sym same)), once-alone queue i d (omega arith) once.1)

-- none of those before it is at its place
pub fresh-once : (queue : List Waiting) (i : ℕ) (d : Waiting) → i < length queue → AreOnce queue
    → IsIn (get_or queue i d).place (take i queue) → ⊥
fresh-once [] i d lt once here = absurd (omega arith)
fresh-once (w ∷ queue) zero d lt once here = here
fresh-once (w ∷ queue) (suc i) d lt once (inl same) =
    All-from_recursion (λ v. v.place ≢ w.place) queue once.0 i d (omega arith) (sym same)
fresh-once (w ∷ queue) (suc i) d lt once (inr rest) = fresh-once queue i d (omega arith) once.1 rest

module _ {X : Type 0} (P : X → Type 0) where
  -- what holds of the others and of one that is put in holds of all
  pub all-insert : (xs : List X) (i : ℕ) (x : X) → i ≤ length xs → P x → AllByRecursion P xs
      → AllByRecursion P (insert xs i x)
  all-insert [] zero x le here all = (here, tt)
  all-insert [] (suc i) x le here all = absurd (omega arith)
  all-insert (y ∷ xs) zero x le here all = (here, all)
  all-insert (y ∷ xs) (suc i) x le here all = (all.0, all-insert xs i x (omega arith) here all.1)

-- one that is put in is in the queue
pub in-inserted : (queue : List Waiting) (i : ℕ) (w : Waiting) → i ≤ length queue → IsIn w.place (insert queue i w)
in-inserted [] zero w le = inl refl
in-inserted [] (suc i) w le = absurd (omega arith)
in-inserted (v ∷ queue) zero w le = inl refl
in-inserted (v ∷ queue) (suc i) w le = inr (in-inserted queue i w (omega arith))

-- and so are the others
pub in-still : (place : ℕ) (queue : List Waiting) (i : ℕ) (w : Waiting) → i ≤ length queue → IsIn place queue
    → IsIn place (insert queue i w)
in-still place [] i w le here = absurd here
in-still place (v ∷ queue) zero w le here = inr here
in-still place (v ∷ queue) (suc i) w le (inl here) = inl here
in-still place (v ∷ queue) (suc i) w le (inr rest) = inr (in-still place queue i w (omega arith) rest)

-- with one of another place they stand once
pub once-insert : (queue : List Waiting) (i : ℕ) (w : Waiting) → i ≤ length queue → AreOnce queue
    → AllByRecursion (λ v. v.place ≢ w.place) queue → AreOnce (insert queue i w)
once-insert [] zero w le once others = (tt, tt)
once-insert [] (suc i) w le once others = absurd (omega arith)
once-insert (v ∷ queue) zero w le once others = (others, once)
once-insert (v ∷ queue) (suc i) w le once others = (
  all-insert (λ u. u.place ≢ v.place) queue i w (omega arith) (λ same. others.0 (sym same)) once.0,
  once-insert queue i w (omega arith) once.1 others.1,
)
