-- The grants of a live flow have started.
use Rattle.flow_book.proofs.Started.{started-found}
use Rattle.tests.proofs.flow_book_rows.lists.compare_flow.Goals as goal

pub most-requires-clause-started : goal.most-requires-clause-started
most-requires-clause-started g c = started-found c.args.now c.args.flow.now.sid c.args.book.now.flows c.requires
