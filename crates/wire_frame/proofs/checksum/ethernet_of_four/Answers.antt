-- Each byte of the word is looked up at its place.
use Rattle.std.proofs.Common.{◌/◌, ◌%◌, arith}
use Rattle.wire_frame.specs.declared.tables.TheConstants.{ETHERNET}
use Rattle.wire_frame.proofs.Eights.{four_bytes}
use Rattle.wire_frame.proofs.checksum.ethernet_of_four.Goals as goal

pub returns : goal.returns
returns c =
    let word = c.args.word in
    let fits = c.ranges.word.fits in
    rw (
      c.ethernet_of.ensures,
      c.ethernet_of-2.ensures,
      c.ethernet_of-3.ensures,
      c.ethernet_of-4.ensures,
      c.to_le_bytes.ensures,
    )
    (four_bytes ETHERNET c.args.more word (word % 256) (word / 256 % 256) (word / 65536 % 256) (word / 16777216 % 256)
    (omega arith) (omega arith) (omega arith) (omega (arith, fits)))
