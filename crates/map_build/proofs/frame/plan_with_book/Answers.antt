-- The book that lends the overlay stays as it is.
use Rattle.map_build.proofs.frame.plan_with_book.Goals as goal

pub returns-clause-only : goal.returns-clause-only
returns-clause-only c = rw c.lend.ensures.same at c.plan_over.ensures.only
