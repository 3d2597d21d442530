-- The register after all bytes, complemented, is the one checksum.
use Rattle.std.proofs.Common.{◌≡◌, ◌*◌, ◌/◌, length, sym, ap, ◌∙◌, arith, take, take_all, get_or}
use Rattle.wire_frame.specs.declared.tables.TheConstants.{ETHERNET}
use Rattle.wire_frame.specs.Checksum.{ethernet}
use Rattle.wire_frame.specs.Register.{after_byte, after_bytes}
use Rattle.wire_frame.proofs.Bytes.{after_none, after_more}
use Rattle.wire_frame.proofs.Eights.{after_parts}
use Rattle.wire_frame.proofs.Sums.{is_checksum, same_sum}
use Rattle.wire_frame.proofs.Generators.{ethernet_sum, ethernet-lt}
use Rattle.wire_frame.proofs.checksum.crc.Goals as goal

pub loop-byte-init : goal.loop-byte-init
loop-byte-init c =
    c.ethernet_after_eights-state.ensures
    ∙ ap (after_bytes ETHERNET 4294967295) c.split_at.ensures.front
    ∙ after_none ETHERNET _

pub loop-byte-preserved : goal.loop-byte-preserved
loop-byte-preserved c =
    let bytes = c.args.bytes.now in
    let start = after_bytes ETHERNET 4294967295 (take (length bytes / 8 * 8) bytes) in
    let rest = c.split_at.result.1.now in
    let more = after_more ETHERNET start rest c.loop-byte.byte-index (omega arith) in
    let step = ap (λ r. after_byte ETHERNET r (get_or rest c.loop-byte.byte-index 0)) c.loop-byte.invariant in
    c.ethernet_after-state.ensures ∙ step ∙ sym more

pub returns-clause-is : goal.returns-clause-is
returns-clause-is c =
    let bytes = c.args.bytes.now in
    let start = after_bytes ETHERNET 4294967295 (take (length bytes / 8 * 8) bytes) in
    let rest = c.split_at.result.1.now in
    let all : take c.loop-byte.byte-index rest ≡ rest = take_all _ rest (omega arith) in
    let is : c.loop-byte.state ≡ after_bytes ETHERNET 4294967295 bytes
    = c.loop-byte.invariant ∙ ap (after_bytes ETHERNET start) all
    ∙ after_parts ETHERNET 4294967295 (length bytes / 8 * 8) bytes rest c.split_at.ensures.back in
    let below = ethernet-lt bytes in
    is_checksum ethernet bytes _ (ethernet_sum bytes _ (omega (arith, is, below)))

pub returns-clause-only : goal.returns-clause-only
returns-clause-only c = λ sum is. same_sum ethernet c.args.bytes.now sum _ is (returns-clause-is c)
