-- At each step it sinks by one place, and at the end all behind it are later.
use Rattle.std.proofs.Common.{refl, ap, ◌+◌, ◌≤◌, get_or, arith}
use Rattle.std.proofs.lemmas.List.{get_or_default}
use Rattle.flow_book.specs.declared.waiting.Waiting.{Waiting}
use Rattle.flow_book.proofs.Sinking.{sinks-more, has-sunk}
use Rattle.flow_book.proofs.queue.move_back.Goals as goal
use Rattle.flow_book.proofs.queue.move_back.Goals.{then-loop-at-test+else-queue-at, else-loop-at-test}

pub loop-at-init : goal.loop-at-init
loop-at-init c = record {
  within = c.requires.within;
  sunk = record { within = c.requires.within; left = refl; before = c.requires.before };
}

pub loop-at-preserved : goal.loop-at-preserved
loop-at-preserved c =
    let d = c.index-queue-at-in-loop-at.result in
    let queue = c.loop-at.queue in
    let next = c.loop-at.at + 1 in
    let low : (get_or queue next d).turn ≤ c.args.waiting.turn =
    omega (
      arith,
      c.if-queue-at.true,
      ap (λ (v : Waiting). v.turn) (get_or_default queue next c.index-queue-at.result d c.loop-at-test.true),
    ) in
    let more =
    sinks-more c.args.index c.args.queue.now queue c.args.waiting.turn c.loop-at.at d c.loop-at.invariant.sunk
    c.loop-at-test.true low in
    rw c.index-queue-at-in-loop-at.is (record { within = more.within; sunk = more })

pub bounds-queue-at-2 : goal.bounds-queue-at-2
bounds-queue-at-2 c = c.loop-at.invariant.within

-- where it stops the one behind it is later
pub returns-clause-moved : goal.returns-clause-moved
returns-clause-moved c =
    has-sunk c.args.index c.args.queue.now c.loop-at.queue c.loop-at.at c.args.waiting c.loop-at.invariant.sunk
    (λ d more. elim c.loop-at-test.branch [
      | then-loop-at-test+else-queue-at w ↦ omega (
        arith,
        w.if-queue-at.false,
        ap (λ (v : Waiting). v.turn) (get_or_default c.loop-at.queue (c.loop-at.at + 1) d w.index-queue-at.result more),
      )
      | else-loop-at-test w ↦ absurd (omega (arith, w.loop-at-test.false, more))
    ])
