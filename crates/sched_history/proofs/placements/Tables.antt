-- Placed flows with one more, which is taken out again.
use Rattle.std.proofs.Common.{◌≡◌, ℕ, Bool, true, false, nat_lt, ◌==◌, cond, List}
use Rattle.std.proofs.Common.{[], ◌∷◌, find, Option, None, Some, refl, arith}
use Rattle.std.specs.Prelude.{IsSome}
use Rattle.std.proofs.lemmas.Bool.Decides.{nat_tests}
use Rattle.periodic.specs.Placement.{Placed}
use Rattle.periodic.specs.Table.{TableView, IsPlaced, with_placed, without as without_placed}
use Rattle.sched_history.proofs.state.Present.{passed_over, without_placed-none}

same_sid : (sid : ℕ) → (sid == sid) ≡ true
same_sid sid = grind (arith, nat_tests)

found-behind : (b : Bool) (q : Placed) (rest : Option Placed) → IsSome rest → IsSome (cond b (Some q) rest)
found-behind true q rest found = refl
found-behind false q rest found = found

find-put : (b : Bool) (p q : Placed) (placed rest : List Placed) → IsPlaced p.sid rest
    → IsPlaced p.sid (cond b (p ∷ q ∷ placed) (q ∷ rest))
find-put true p q placed rest found = rw (same_sid p.sid) refl
find-put false p q placed rest found = found-behind (q.sid == p.sid) q (find (λ r. r.sid == p.sid) rest) found

-- what is put in is found
pub find-with_placed : (p : Placed) (placed : List Placed) → IsPlaced p.sid (with_placed p placed)
find-with_placed p [] = rw (same_sid p.sid) refl
find-with_placed p (q ∷ placed) =
    find-put (nat_lt p.sid q.sid) p q placed (with_placed p placed) (find-with_placed p placed)

without-put : (b : Bool) (p q : Placed) (placed rest : List Placed) → (q.sid == p.sid) ≡ false
    → without_placed p.sid placed ≡ placed
    → without_placed p.sid rest ≡ placed
    → without_placed p.sid (cond b (p ∷ q ∷ placed) (q ∷ rest)) ≡ q ∷ placed
without-put true p q placed rest other all left = rw (same_sid p.sid, other, all) refl
without-put false p q placed rest other all left = rw (other, left) refl

-- what is put in and taken out leaves the others
pub without-with_placed : (p : Placed) (placed : List Placed) → find (λ q. q.sid == p.sid) placed ≡ None
    → without_placed p.sid (with_placed p placed) ≡ placed
without-with_placed p [] none = rw (same_sid p.sid) refl
without-with_placed p (q ∷ placed) none =
    let both = passed_over (q.sid == p.sid) q (find (λ r. r.sid == p.sid) placed) none in
    without-put (nat_lt p.sid q.sid) p q placed (with_placed p placed) both.0 (without_placed-none p.sid placed both.1)
    (without-with_placed p placed both.1)

-- the table is as it was
pub table-undone : (old new : TableView) (p : Placed) → find (λ q. q.sid == p.sid) old.placed ≡ None
    → new.config ≡ old.config
    → new.placed ≡ with_placed p old.placed
    → ◌≡◌ {A = TableView} (record { config = new.config; placed = without_placed p.sid new.placed }) old
table-undone old new p none config placed = rw (config, placed, without-with_placed p old.placed none) refl
