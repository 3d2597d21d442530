-- The numbers of both parts stand in order.
use Rattle.std.proofs.Common.{◌≡◌, ◌∙◌, ◌++◌, sym, ap, subst, map, filter}
use Rattle.std.proofs.lemmas.Result.{IfOk-weaker}
use Rattle.std.proofs.lemmas.List.{map-append}
use Rattle.std.specs.BTreeSet.{IsFromIterResult}
use Rattle.std.specs.Ordering.{nat_cmp}
use Rattle.flow_book.specs.Pending.{number_at, waiting_in}
use Rattle.flow_book.specs.Queue.{still_waits}
use Rattle.flow_book.proofs.Mending.{filled}
use Rattle.flow_book.proofs.line.numbers_of.Goals as goal

pub returns : goal.returns
returns c =
    let queue = c.args.queue.now in
    let served = c.args.served.now in
    let n = number_at c.args.flows.now in
    let all : c.push_numbers-2.new.numbers.items ≡ map n (waiting_in queue served) =
    c.in_ok-push_numbers-2.ensures
    ∙ ap (λ ns. ns ++ map n (filter still_waits served))
    (c.in_ok-push_numbers.ensures ∙ ap (λ ns. ns ++ map n (filter still_waits queue)) c.in_ok-numbers.ensures.items)
    ∙ sym (map-append n (filter still_waits queue) (filter still_waits served)) in
    IfOk-weaker c.set_of.result _ _
    (λ s made k items book is same. filled k c.args.flows.now items queue served s book is same
    (subst (λ ns. IsFromIterResult nat_cmp ns s) all made)) c.set_of.ensures
