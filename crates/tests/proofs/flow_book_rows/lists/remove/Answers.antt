-- The flows that are left are as before.
use Rattle.flow_book.specs.Choice.{HasStartedBy}
use Rattle.sched_calls.proofs.Removal.{all-filter}
use Rattle.tests.proofs.flow_book_rows.lists.remove.Goals as goal

pub returns : goal.returns
returns c = rw c.remove.ensures.removed (all-filter (HasStartedBy c.args.now) _ _ c.requires)
