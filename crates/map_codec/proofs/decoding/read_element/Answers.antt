-- The element read is the one that the bytes hold there.
use Rattle.std.proofs.Common.{◌*◌, refl, sym, ap, ◌∙◌}
use Rattle.map_codec.specs.Element.{element_of}
use Rattle.map_codec.proofs.Words.{element_at-elements_in}
use Rattle.map_codec.proofs.decoding.read_element.Goals as goal

pub returns : goal.returns
returns c =
    let held = element_at-elements_in c.args.i (4 * c.args.i) c.args.words.now refl c.requires in
    ap element_of c.from_be_bytes-word.ensures ∙ sym held
