-- The register is the one after the eights and the bytes so far.
use Rattle.std.proofs.Common.{◌≡◌, ◌*◌, ◌/◌, length, take}
use Rattle.wire_frame.specs.declared.tables.TheConstants.{ETHERNET}
use Rattle.wire_frame.specs.Register.{after_bytes}
use Rattle.wire_frame.proofs.checksum.crc.Given as goal

abbrev pub invariant-loop-byte : goal.invariant-loop-byte
invariant-loop-byte l =
    l.state
    ≡ after_bytes ETHERNET (after_bytes ETHERNET 4294967295 (take (length l.bytes / 8 * 8) l.bytes))
    (take l.byte-index l.rest)
