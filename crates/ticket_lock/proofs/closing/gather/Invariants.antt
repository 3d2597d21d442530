-- The seats that were taken are gathered, in their order.
use Rattle.std.proofs.Common.{◌≡◌, ◌++◌, List, Some, length}
use Rattle.ticket_lock.specs.Rule.{about_of}
use Rattle.ticket_lock.specs.Standing.{Standing}
use Rattle.ticket_lock.specs.Tokens.{IsGathered}
use Rattle.ticket_lock.proofs.closing.gather.Given as goal

abbrev pub invariant-loop-seat : goal.invariant-loop-seat
invariant-loop-seat g l =
    (l.place.table_id ≡ l.steps.table_id)
    × ((taken : List (Standing g.row.T-Head.Denot g.row.T-Entry.Denot)) × (l.fn.seats.items ≡ l.seats.items ++ taken)
    × IsGathered (Some (about_of g.T.Journal.head g.T.Journal.entries l.steps.key)) taken l.place.me.0)

abbrev pub decreases-loop-seat : goal.decreases-loop-seat
decreases-loop-seat g l = length l.seats.items
