-- Those before the last that waits no more stand together, and the others were there.
use Rattle.std.proofs.Common.{◌≡◌, ◌∙◌, ◌++◌, sym, ap, filter, take, drop}
use Rattle.std.proofs.lemmas.List.{take-append-drop}
use Rattle.std.proofs.lemmas.List.Elements.{filter-append}
use Rattle.flow_book.specs.Queue.{still_waits}
use Rattle.flow_book.proofs.queue_list.Queue.drop_idle.Goals as goal

pub close_up-first-requires : goal.close_up-first-requires
close_up-first-requires c = rw c.all.ensures at c.behind_last_idle-upto.ensures.within

pub returns : goal.returns
returns c =
    let queue = c.args.self.now in
    let upto = c.behind_last_idle-upto.result in
    let waiting : filter still_waits (drop upto queue) ≡ drop upto queue =
    rw c.all.ensures at c.behind_last_idle-upto.ensures.waiting in
    c.drop_front.ensures
    ∙ c.close_up-first.ensures.closed
    ∙ ap (λ ws. filter still_waits (take upto queue) ++ ws) (sym waiting)
    ∙ sym (filter-append still_waits (take upto queue) (drop upto queue))
    ∙ ap (filter still_waits) (take-append-drop upto queue)
