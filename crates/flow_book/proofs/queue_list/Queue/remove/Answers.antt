-- The front is left as it was.
use Rattle.std.proofs.Common.{◌∙◌, ap, drop, remove}
use Rattle.flow_book.proofs.Fronts.{drop-remove}
use Rattle.flow_book.proofs.queue_list.Queue.remove.Goals as goal

pub returns : goal.returns
returns c =
    let front = c.self.inside.front in
    ap (drop front) c.remove.ensures.items
    ∙ drop-remove front c.self.inside.list.items c.args.index c.self.invariant
    ∙ ap (λ ws. remove ws c.args.index) c.self.view_is
