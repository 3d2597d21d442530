-- One grant more starts now.
use Rattle.flow_book.specs.Reserved.{with_grant}
use Rattle.flow_book.specs.Choice.{HasStartedBy}
use Rattle.flow_book.proofs.Started.{all-changed, started-more}
use Rattle.tests.proofs.flow_book_rows.lists.grant.Goals as goal

pub returns : goal.returns
returns c =
    rw c.in_ok-bytes.ensures (all-changed (HasStartedBy c.args.now) c.in-Some.sid
    (with_grant c.args.twins.now.book.config (record { start = c.args.now; bytes = c.in_ok-bytes.bytes })) _
    (λ f all. started-more c.args.now c.in_ok-bytes.bytes f.grants all) c.requires)
