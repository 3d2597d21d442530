-- A place more is gone through.
use Rattle.std.proofs.Common.{◌≡◌, ℕ, ◌+◌, ◌-◌, ◌++◌, subst, map, take, drop, get_or, set, arith}
use Rattle.std.proofs.lemmas.Bool.Decides.{nat_tests}
use Rattle.std.proofs.lemmas.List.{get_or_default}
use Rattle.std.proofs.lemmas.List.Edits.{map_over_more}
use Rattle.flow_book.specs.declared.waiting.Waiting.{Waiting}
use Rattle.flow_book.specs.Queue.{moved_down}
use Rattle.flow_book.proofs.queue.move_down.Goals as goal
use Rattle.flow_book.proofs.queue.move_down.Goals.{then-place-waiting, else-place-waiting}

pub loop-waiting-preserved : goal.loop-waiting-preserved
loop-waiting-preserved c =
    let place = c.args.place in
    let first = c.args.queue.now in
    let queue = c.loop-waiting.queue in
    let i = c.loop-waiting.waiting-index in
    let x : Waiting = get_or queue i c.waiting-item.result in
    let more =
    map_over_more (moved_down place) first queue i x c.loop-waiting-test.true c.loop-waiting.invariant
    (get_or_default queue i c.waiting-item.result x (omega arith)) in
    let Stands : ℕ → Type 0 = λ at. set queue i (record x { place = at })
    ≡ map (moved_down place) (take (i + 1) first) ++ drop (i + 1) first in
    elim c.if-place-waiting.branch [
      | then-place-waiting w ↦ (
          let is : (moved_down place x).place ≡ x.place - 1 =
          let test = w.if-place-waiting.true in grind (arith, nat_tests) in
          rw w.queue-is (subst Stands is more))
      | else-place-waiting w ↦ (
          let is : (moved_down place x).place ≡ x.place =
          let test = w.if-place-waiting.false in grind (arith, nat_tests) in
          rw w.queue-is (subst Stands is more))
    ]
