-- Each element is written behind those before it.
use Rattle.std.proofs.Common.{◌≡◌, get_or, ap, ◌∙◌, arith}
use Rattle.std.specs.Int.{w32, to_be_bytes}
use Rattle.map_codec.specs.Element.{no_element, bytes_of}
use Rattle.map_codec.proofs.Spelling.{in_range_at, written_elements_more, written_all}
use Rattle.map_codec.proofs.encoding.put_elements.Goals as goal

pub loop-i-preserved : goal.loop-i-preserved
loop-i-preserved c =
    let es = c.args.elements.now in
    let piece : c.to_be_bytes.result ≡ bytes_of (get_or es c.loop-i.i no_element) =
    c.to_be_bytes.ensures ∙ ap (to_be_bytes w32) c.word.ensures in
    let wrote = rw piece at c.put.ensures in
    written_elements_more es _ _ _ c.loop-i.i no_element (omega arith) c.loop-i.invariant wrote

pub returns : goal.returns
returns c = written_all c.args.elements.now c.args.out.now c.loop-i.out c.loop-i.i (omega arith) c.requires.room c.loop-i.invariant
