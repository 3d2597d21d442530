-- The bytes that the flow wants at least are those that its ceilings are asked for.
use Rattle.std.proofs.Common.{◌==◌, sym, ap, ◌∙◌}
use Rattle.flow_book.specs.Limits.{most_in}
use Rattle.flow_book.specs.Entry.{live}
use Rattle.flow_book.proofs.Ceilings.{room-limits}
use Rattle.flow_book.proofs.Periods.{begun-by}
use Rattle.flow_book.proofs.flow.Flow.has_room.Goals as goal

pub has-requires : goal.has-requires
has-requires c =
    let keeps = c.requires.sums in
    begun-by c.args.config.now (live c.args.self.now) c.args.self.now.limits c.args.start keeps.limits keeps.periods
    c.requires.started

pub returns : goal.returns
returns c =
    let channel = c.args.config.now in
    let f = c.args.self.now in
    let keeps = c.requires.sums in
    c.has.ensures ∙ ap (λ n. most_in f.limits c.args.start n == n) c.wanted.ensures.value
    ∙ sym (room-limits channel (live f) f.limits c.args.start keeps.limits keeps.periods c.requires.started)
