-- Each element is written behind those before it.
use Rattle.std.proofs.Common.{rules, ◌+◌, sym, subst, slice_set, arith}
use Rattle.map_codec.specs.declared.element.Element.{Element}
use Rattle.mapsched_c.specs.Map.{plain_element}
use Rattle.mapsched_c.proofs.Elements.{StandSoFar, stand_none, stand_more, stand_all}
use Rattle.mapsched_c.proofs.maps.put_elements.Goals as goal

pub loop-i-init : goal.loop-i-init
loop-i-init c = stand_none plain_element c.args.elements.now c.args.out.now

pub loop-i-preserved : goal.loop-i-preserved
loop-i-preserved c =
    let es = c.args.elements.now in
    let old = c.args.out.now in
    let none : Element = record { sid = 0; iuc = 0; offset = 0 } in
    let more = stand_more plain_element es old c.loop-i.out c.loop-i.i none
    (omega arith) c.requires c.loop-i.invariant in
    subst (λ y. StandSoFar plain_element es old (slice_set c.loop-i.out c.loop-i.i y) (c.loop-i.i + 1))
    (sym c.plain_element.ensures) more

pub returns : goal.returns
returns c = search (rules, stand_all)
