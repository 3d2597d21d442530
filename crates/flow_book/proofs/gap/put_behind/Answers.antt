-- It stands behind those of turns no later, and before those that moved.
use Rattle.std.proofs.Common.{◌≤◌, ◌+◌, ◌∙◌, sym, ap, subst, take, drop, length, arith}
use Rattle.std.specs.List.{AllByRecursion}
use Rattle.sched_calls.specs.Sids.{AscendBy}
use Rattle.flow_book.specs.declared.waiting.Waiting.{Waiting}
use Rattle.flow_book.proofs.Gaps.{ascends-take, put-between, none-later, put-last-place, later-behind}
use Rattle.flow_book.proofs.Queues.{with-one}
use Rattle.flow_book.proofs.gap.put_behind.Goals as goal
use Rattle.flow_book.proofs.gap.put_behind.Goals.{then-loop-first-test+else-one-queue, else-loop-first-test}

pub returns-clause-put : goal.returns-clause-put
returns-clause-put c =
    let queue = c.loop-first.queue in
    let first = c.loop-first.first in
    let gap = c.args.gap in
    let one = c.args.one in
    let is = c.loop-first.invariant in
    let fits : first + gap ≤ length queue = omega (arith, c.requires.within, is.within, is.long) in
    let up : AscendBy (λ w. w.turn) (take first queue) =
    subst (AscendBy (λ w. w.turn)) (sym is.front)
    (ascends-take c.args.queue.now first c.args.first is.within c.requires.ascending) in
    let some : first ≤ length queue = omega (arith, fits) in
    let low : AllByRecursion (λ w. w.turn ≤ one.turn) (take first queue) = elim c.loop-first-test.branch [
      | then-loop-first-test+else-one-queue w ↦ none-later queue first one.turn w.index-queue-first.result some up
          (λ some'. w.index-queue-first.is)
          (λ some'. omega (arith, w.if-one-queue.false, ap (λ (v : Waiting). v.turn) w.index-queue-first.is))
      | else-loop-first-test w ↦ none-later queue first one.turn one some up
          (λ some'. absurd (omega (arith, some', w.loop-first-test.false)))
          (λ some'. absurd (omega (arith, some', w.loop-first-test.false)))
    ] in
    put-last-place queue first gap one fits c.requires.gap
    ∙ sym (put-between one (take first queue) (drop (first + gap) queue) low is.behind)
    ∙ ap (with-one one) is.around

pub returns-clause-behind : goal.returns-clause-behind
returns-clause-behind c =
    let is = c.loop-first.invariant in
    later-behind c.loop-first.queue c.loop-first.first c.args.gap c.args.one
    (omega (arith, c.requires.within, is.within, is.long)) c.requires.gap is.behind
