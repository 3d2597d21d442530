-- The limit is what is outstanding, capped and fits.
use Rattle.flow_book.specs.Entry.{live}
use Rattle.flow_book.proofs.Amounts.{most-in-limits}
use Rattle.flow_book.proofs.Charges.{begun-by}
use Rattle.flow_book.proofs.flow.Flow.most.Goals as goal

pub most-requires : goal.most-requires
most-requires c =
    begun-by c.args.config.now (live c.args.self.now) c.args.self.now.limits c.args.start c.requires.sums.limits
    c.requires.sums.charges c.requires.started

pub returns-clause-most : goal.returns-clause-most
returns-clause-most c =
    most-in-limits c.args.config.now (live c.args.self.now) c.args.self.now.limits c.args.start c.args.room
    c.limit-limit.result c.most.result c.limit-limit.ensures.lawful (rw c.bytes_in.ensures.value at c.limit-limit.ensures.value)
    c.requires.sums.limits c.requires.sums.charges c.requires.started (rw c.wanted.ensures.value at c.most.ensures)
