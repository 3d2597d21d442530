-- They are put in order.
use Rattle.std.proofs.Common.{◌≡◌, ◌∙◌, ap, map, take, arith}
use Rattle.std.proofs.lemmas.List.{take_all}
use Rattle.std.proofs.lemmas.List.Sorted.{IsNonDecreasingBy-from_sort}
use Rattle.flow_book.specs.Line.{sorted, sid_of}
use Rattle.flow_book.proofs.InOrder.{sorted-is}
use Rattle.flow_book.proofs.shown.sids_of.Goals as goal

pub returns : goal.returns
returns c =
    let ns = c.args.numbers.now in
    let all : take c.loop-number.number-index ns ≡ ns = take_all c.loop-number.number-index ns (omega arith) in
    let sids : c.loop-number.sids.items ≡ map sid_of ns = c.loop-number.invariant ∙ ap (map sid_of) all in
    sorted-is c.loop-number.sids.items c.sort_unstable.new.self.items c.sort_unstable.ensures.permutation
    (IsNonDecreasingBy-from_sort (λ x. x) c.sort_unstable.new.self.items c.sort_unstable.ensures.sorted) ∙ ap sorted sids
