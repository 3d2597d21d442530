-- The flow is taken out, and then the places behind it are moved down.
use Rattle.std.proofs.Common.{sym, subst, remove}
use Rattle.flow_book.specs.Queue.{IsQueue}
use Rattle.flow_book.proofs.Shifts.{queue-down}
use Rattle.flow_book.proofs.queue.leave.Goals as goal

pub returns : goal.returns
returns c = λ items within is.
    subst (IsQueue (remove items c.args.place)) (sym c.move_down.ensures)
    (queue-down items c.args.place c.take_out.new.queue within (c.take_out.ensures items is))
