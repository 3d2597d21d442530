-- The register is the one after the bytes so far.
use Rattle.std.proofs.Common.{◌≡◌, take}
use Rattle.wire_frame.specs.declared.tables.TheConstants.{CCITT}
use Rattle.wire_frame.specs.Register.{after_bytes}
use Rattle.wire_frame.proofs.checksum.hcs.Given as goal

abbrev pub invariant-loop-byte : goal.invariant-loop-byte
invariant-loop-byte l = l.register ≡ after_bytes CCITT 65535 (take l.byte-index l.bytes)
