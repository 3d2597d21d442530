-- The bytes that the flow wants at least are those that its reservation is asked for.
use Rattle.std.proofs.Common.{sym, ap, ◌∙◌}
use Rattle.flow_book.specs.Bucket.{reserves}
use Rattle.flow_book.specs.Entry.{live}
use Rattle.flow_book.proofs.Charges.{begun-by}
use Rattle.flow_book.proofs.Reservation.{under-reserves}
use Rattle.flow_book.proofs.flow.Flow.is_under.Goals as goal

pub reserves-requires : goal.reserves-requires
reserves-requires c =
    let keeps = c.requires.sums in
    (begun-by c.args.config.now (live c.args.self.now) c.args.self.now.limits c.args.start keeps.limits keeps.charges
    c.requires.started).reserved

pub returns : goal.returns
returns c =
    let channel = c.args.config.now in
    let f = c.args.self.now in
    let keeps = c.requires.sums in
    c.reserves.ensures ∙ ap (reserves f.limits.reserved c.args.start) c.wanted.ensures.value
    ∙ sym (under-reserves channel (live f) f.limits c.args.start keeps.limits keeps.charges c.requires.started)
