-- The front is left as it was.
use Rattle.std.proofs.Common.{◌∙◌, ap, drop, insert}
use Rattle.flow_book.proofs.Fronts.{drop-insert}
use Rattle.flow_book.proofs.queue_list.Queue.insert.Goals as goal

pub returns-clause-ok : goal.returns-clause-ok
returns-clause-ok c =
    let front = c.self.inside.front in
    let old = c.self.inside.list.items in
    ap (drop front) c.in_ok-insert.ensures.items
    ∙ drop-insert front old c.args.index c.args.waiting c.self.invariant
    ∙ ap (λ ws. insert ws c.args.index c.args.waiting) (c.self.view_is ∙ c.make_place.ensures.same)
