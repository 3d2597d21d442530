-- It stands behind those that it passes.
use Rattle.flow_book.proofs.Passing.{has-passed}
use Rattle.flow_book.proofs.queue.move_behind.Goals as goal

pub returns : goal.returns
returns c =
    has-passed c.args.index c.args.queue.now c.pass-to.new.queue c.pass-to.result c.args.waiting c.requires.within
    c.pass-to.ensures.passed c.requires.waits c.pass-to.ensures.next
