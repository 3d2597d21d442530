-- The elements are written behind the fixed bytes, and with them the spelling stands in front.
use Rattle.std.proofs.Common.{◌≡◌, ◌+◌, ◌*◌, ◌-◌, ◌++◌, length, take, drop, ap, ◌∙◌, arith}
use Rattle.std.specs.List.{flat_map}
use Rattle.map_codec.specs.Element.{bytes_of}
use Rattle.map_codec.specs.WireMap.{header}
use Rattle.map_codec.proofs.Spelling.{length-flat_map-bytes_of, length-header, length-spelling, put_behind}
use Rattle.map_codec.proofs.Spelling.{written_behind}
use Rattle.map_codec.proofs.encoding.encode.Goals as goal

pub returns-clause-len : goal.returns-clause-len
returns-clause-len c = omega (arith, length-spelling c.args.map.now)

pub returns-clause-bytes : goal.returns-clause-bytes
returns-clause-bytes c =
    let m = c.args.map.now in
    let piece : c.put_elements.new.out ≡ flat_map bytes_of m.elements =
    c.put_elements.ensures ∙ ap (flat_map bytes_of) c.as_slice.ensures in
    let long : length c.put_elements.new.out ≡ 16 + 4 * c.len.result - 16 =
    ap length piece ∙ omega (arith, length-flat_map-bytes_of m.elements) in
    let put = put_behind 16 (16 + 4 * c.len.result - 16) c.put.new.out c.put_elements.new.out long in
    let front : c.put.new.out ≡ header m ++ drop 16 c.args.out.now =
    let len : 0 + length (header m) ≡ 16 = omega (arith, length-header m) in
    c.put.ensures
    ∙ ap (λ l. l ++ drop (0 + length l) c.args.out.now) c.fixed_bytes.ensures
    ∙ ap (λ n. header m ++ drop n c.args.out.now) len in
    written_behind m c.args.out.now c.put.new.out _ front
    (put ∙ ap (λ l. take 16 c.put.new.out ++ l ++ drop (16 + length l) c.put.new.out) piece)
