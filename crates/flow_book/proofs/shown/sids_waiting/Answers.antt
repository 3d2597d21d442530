-- The SIDs of both parts are put in order.
use Rattle.std.proofs.Common.{◌≡◌, ◌∙◌, ◌++◌, ap, sym, map, filter}
use Rattle.std.proofs.lemmas.List.{map-append}
use Rattle.std.proofs.lemmas.List.Sorted.{IsNonDecreasingBy-from_sort}
use Rattle.flow_book.specs.Queue.{still_waits}
use Rattle.flow_book.specs.Line.{sorted}
use Rattle.flow_book.specs.Pending.{sid_at, waiting_in}
use Rattle.flow_book.proofs.InOrder.{sorted-is}
use Rattle.flow_book.proofs.shown.sids_waiting.Goals as goal

pub returns : goal.returns
returns c =
    let others = filter still_waits c.args.queue.now in
    let left = filter still_waits c.args.served.now in
    let sids : c.push_sids-2.new.sids.items ≡ map sid_at (waiting_in c.args.queue.now c.args.served.now) =
    c.in_ok-push_sids-2.ensures
    ∙ ap (λ xs. xs ++ map sid_at left)
    (c.in_ok-push_sids.ensures ∙ ap (λ xs. xs ++ map sid_at others) c.in_ok-sids.ensures.items)
    ∙ sym (map-append sid_at others left) in
    sorted-is c.push_sids-2.new.sids.items c.sort_unstable.new.self.items c.sort_unstable.ensures.permutation
    (IsNonDecreasingBy-from_sort (λ x. x) c.sort_unstable.new.self.items c.sort_unstable.ensures.sorted) ∙ ap sorted sids
