-- One byte is eight bits.
use Rattle.std.proofs.Common.{arith}
use Rattle.wire_frame.specs.declared.tables.TheConstants.{ETHERNET}
use Rattle.wire_frame.proofs.Bytes.{taken}
use Rattle.wire_frame.proofs.checksum.ethernet_after.Goals as goal

pub returns : goal.returns
returns c = taken ETHERNET c.args.register c.args.byte c.ethernet_of.result (omega arith) c.ethernet_of.ensures
