-- Each element is that of the next numbers.
use Rattle.std.proofs.Common.{map, take, sym, ap, ◌∙◌, arith}
use Rattle.std.proofs.lemmas.List.{take_all, take_more, map-append}
use Rattle.mapsched_c.specs.declared.maps.PlainElement.{PlainElement}
use Rattle.mapsched_c.specs.Encode.{wire_element}
use Rattle.mapsched_c.proofs.encode.wire_elements.Goals as goal

pub loop-i-preserved : goal.loop-i-preserved
loop-i-preserved c =
    let es = c.args.elements.now in
    let none : PlainElement = record { sid = 0; offset = 0; iuc = 0 } in
    record {
      items = rw (c.push_reserved.ensures.items, c.loop-i.invariant.items, c.element.ensures)
          (sym (map-append wire_element (take c.loop-i.i es) _)
          ∙ ap (map wire_element) (sym (take_more es c.loop-i.i none c.loop-i-test.true)));
      len = omega (arith, c.push_reserved.ensures.len, c.loop-i.invariant.len);
      room = c.push_reserved.ensures.capacity ∙ c.loop-i.invariant.room;
    }

pub returns : goal.returns
returns c =
    let es = c.args.elements.now in
    c.loop-i.invariant.items ∙ ap (map wire_element) (take_all c.loop-i.i es (omega arith))
