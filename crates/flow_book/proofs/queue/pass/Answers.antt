-- At each step it passes one more.
use Rattle.std.proofs.Common.{◌≡◌, ◌∙◌, ap, sym, ◌+◌, get_or, true}
use Rattle.std.proofs.lemmas.List.{get_or_default}
use Rattle.flow_book.specs.Queue.{is_passed}
use Rattle.flow_book.proofs.Passing.{passes-more}
use Rattle.flow_book.proofs.queue.pass.Goals as goal

pub loop-to-preserved : goal.loop-to-preserved
loop-to-preserved c =
    let d = c.index-queue-to-in-loop-to.result in
    let queue = c.loop-to.queue in
    let next = c.loop-to.to + 1 in
    let turn = c.args.turn in
    let passed : is_passed turn (get_or queue next d) ≡ true =
    ap (is_passed turn) (get_or_default queue next d c.index-queue-to.result c.loop-to-test.true) ∙ sym c.is_passed.ensures ∙ c.if-is_passed.true in
    let more =
    passes-more c.args.index c.args.queue.now queue turn c.loop-to.to d c.loop-to.invariant.passed c.loop-to-test.true
    passed in
    rw c.index-queue-to-in-loop-to.is (record { within = more.within; passed = more })
