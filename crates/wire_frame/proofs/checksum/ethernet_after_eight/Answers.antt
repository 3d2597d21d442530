-- Eight bytes are two words.
use Rattle.std.proofs.Common.{arith}
use Rattle.wire_frame.specs.declared.tables.TheConstants.{ETHERNET}
use Rattle.wire_frame.proofs.Eights.{after_eight}
use Rattle.wire_frame.proofs.checksum.ethernet_after_eight.Goals as goal

pub returns : goal.returns
returns c =
    rw (
      c.ethernet_of_four.ensures,
      c.ethernet_of_four-2.ensures,
      c.from_le_bytes-first.ensures,
      c.from_le_bytes-second.ensures,
    )
    (after_eight ETHERNET c.args.register c.args.bytes.now c.requires (λ k. omega (arith, c.type_inv.bytes k)))
