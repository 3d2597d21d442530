-- The register is the one after so many eights.
use Rattle.std.proofs.Common.{◌≡◌, ◌*◌, take}
use Rattle.wire_frame.specs.declared.tables.TheConstants.{ETHERNET}
use Rattle.wire_frame.specs.Register.{after_bytes}
use Rattle.wire_frame.proofs.checksum.ethernet_after_eights.Given as goal

abbrev pub invariant-loop-place : goal.invariant-loop-place
invariant-loop-place l = l.state ≡ after_bytes ETHERNET 4294967295 (take (8 * l.place) l.bytes)
