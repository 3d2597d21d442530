-- One byte is eight bits.
use Rattle.std.proofs.Common.{arith}
use Rattle.wire_frame.specs.declared.tables.TheConstants.{CCITT}
use Rattle.wire_frame.proofs.Bytes.{taken}
use Rattle.wire_frame.proofs.checksum.ccitt_after.Goals as goal

pub returns : goal.returns
returns c = taken CCITT c.args.register c.args.byte c.ccitt_of.result (omega arith) c.ccitt_of.ensures
