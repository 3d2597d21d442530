-- The places are moved up.
use Rattle.std.proofs.Common.{◌∙◌, sym, subst, true≢false, insert}
use Rattle.flow_book.specs.Queue.{IsQueue}
use Rattle.flow_book.proofs.Shifts.{queue-up, places-bounded}
use Rattle.flow_book.proofs.queue.make_way.Goals as goal

pub move_up-requires : goal.move_up-requires
move_up-requires c =
    let is = c.requires c.if-is_queued.true in
    places-bounded is.0 _ c.args.queue.now is.2 is.1.each

pub returns-then-is_queued : goal.returns-then-is_queued
returns-then-is_queued c = λ items e known is within idle.
    subst (IsQueue (insert items c.args.place e)) (sym c.move_up.ensures)
    (queue-up items c.args.place e c.args.queue.now within idle is)

pub returns-else-is_queued : goal.returns-else-is_queued
returns-else-is_queued c = λ items e known is within idle. absurd (true≢false (sym known ∙ c.if-is_queued.false))
