-- A flow more is in the list.
use Rattle.std.proofs.Common.{◌≡◌, ◌∙◌, ap, sym, map, take, ◌++◌, ◌∷◌, [], ◌+◌, arith}
use Rattle.std.proofs.lemmas.List.{take_more, take_all, length-map}
use Rattle.std.proofs.Math.ListN.{get_or-map}
use Rattle.flow_book.specs.Entry.{live}
use Rattle.flow_book.proofs.flow_list.list_of.Goals as goal

pub loop-place-preserved : goal.loop-place-preserved
loop-place-preserved c =
    let flows = map live c.args.flows.now in
    let i = c.loop-place.place in
    let f = live c.at.result.now in
    let more : take (i + 1) flows ≡ take i flows ++ f ∷ [] =
    take_more flows i f (omega (arith, length-map c.args.flows.now live, c.loop-place-test.true))
    ∙ ap (λ g. take i flows ++ g ∷ [])
    (get_or-map live c.args.flows.now i c.at.result.now ∙ ap live (sym c.at.ensures)) in
    c.and-list.ensures ∙ ap (λ l. l ++ f ∷ []) c.loop-place.invariant ∙ sym more

pub returns : goal.returns
returns c =
    c.loop-place.invariant
    ∙ take_all _ _ (omega (arith, length-map c.args.flows.now live, c.loop-place-test.false))
