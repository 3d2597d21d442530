-- Grants that have started by a minislot have by the next.
use Rattle.flow_book.proofs.Started.{flows-later}
use Rattle.tests.proofs.flow_book_rows.lists.the_book_answers_what_its_slow_reference_does.Goals as goal

pub loop-preserved : goal.loop-preserved
loop-preserved g c =
    flows-later c.loop.now c.later-now.result c.change.new.twins.book.flows c.later-now.ensures c.in_ok-change.ensures
