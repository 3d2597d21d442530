-- Each element read is the next that the bytes hold.
use Rattle.std.proofs.Common.{◌<◌, length, sym, ◌∙◌, arith}
use Rattle.std.proofs.lemmas.List.{take_all, take_more}
use Rattle.map_codec.specs.Element.{elements_in, no_element}
use Rattle.map_codec.proofs.Words.{length-elements_in}
use Rattle.map_codec.proofs.decoding.read_elements.Goals as goal

pub loop-i-preserved : goal.loop-i-preserved
loop-i-preserved c =
    let es = elements_in c.args.words.now in
    let lt : c.loop-i.i < length es = omega (arith, length-elements_in c.args.words.now) in
    record {
      items = rw (c.push_reserved.ensures.items, c.loop-i.invariant.items, c.read_element.ensures)
          (sym (take_more es c.loop-i.i no_element lt));
      len = omega (arith, c.push_reserved.ensures.len, c.loop-i.invariant.len);
      room = c.push_reserved.ensures.capacity ∙ c.loop-i.invariant.room;
    }

pub returns : goal.returns
returns c =
    let es = elements_in c.args.words.now in
    c.loop-i.invariant.items ∙ take_all c.loop-i.i es (omega (arith, length-elements_in c.args.words.now))
