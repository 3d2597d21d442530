-- All grants have started.
use Rattle.std.specs.List.{AllByRecursion}
use Rattle.flow_book.specs.Choice.{HasStartedBy}
use Rattle.tests.proofs.flow_book_rows.lists.the_book_answers_what_its_slow_reference_does.Given as goal

abbrev pub invariant-loop : goal.invariant-loop
invariant-loop g l = AllByRecursion (HasStartedBy l.now) l.twins.book.flows
