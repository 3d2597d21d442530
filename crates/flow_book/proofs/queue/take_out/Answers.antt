-- No place is twice in the queue.
use Rattle.std.proofs.Common.{◌≡◌, ◌≢◌, ◌==◌, sym, subst, position, Some}
use Rattle.std.proofs.lemmas.List.Quantifiers.{position-Some}
use Rattle.flow_book.specs.Queue.{IsQueueAmong}
use Rattle.flow_book.proofs.TurnEnds.{nobody}
use Rattle.flow_book.specs.declared.waiting.Waiting.{Waiting}
use Rattle.flow_book.proofs.Queues.{taken-at, none-out, none-at}
use Rattle.flow_book.proofs.queue.take_out.Goals as goal

pub remove-requires : goal.remove-requires
remove-requires c =
    (position-Some (λ (w : Waiting). w.place == c.args.place) c.args.queue.now c.in-Some.index nobody
    (sym c.in-Some.ensures)).0

pub returns-in-Some : goal.returns-in-Some
returns-in-Some c = λ items is.
    let queue = c.args.queue.now in
    let at : Some c.in-Some.index ≡ position (λ w. w.place == c.args.place) queue = c.in-Some.ensures in
    subst (IsQueueAmong items (λ other. other ≢ c.args.place)) (sym c.remove.ensures)
    (taken-at items queue c.args.place c.in-Some.index nobody (sym at) is)

pub returns-in_default : goal.returns-in_default
returns-in_default c = λ items is.
    none-out items c.args.queue.now c.args.place
    (none-at c.args.place c.args.queue.now (sym (c.in_default.ensures))) is
