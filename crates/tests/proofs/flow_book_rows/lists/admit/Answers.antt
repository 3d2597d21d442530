-- A new flow has no grants.
use Rattle.flow_book.specs.Choice.{HasStartedBy}
use Rattle.sched_calls.proofs.Insertion.{all-put_in}
use Rattle.tests.proofs.flow_book_rows.lists.admit.Goals as goal

pub returns : goal.returns
returns c =
    rw c.in_ok-admit.ensures.ok (all-put_in (λ g. g.sid) (HasStartedBy c.args.now) _ _ tt c.requires)
