-- The register after all bytes, complemented, is the one checksum.
use Rattle.std.proofs.Common.{◌≡◌, sym, ap, ◌∙◌, arith, take, take_all, get_or}
use Rattle.wire_frame.specs.declared.tables.TheConstants.{CCITT}
use Rattle.wire_frame.specs.Checksum.{ccitt}
use Rattle.wire_frame.specs.Register.{after_byte, after_bytes}
use Rattle.wire_frame.proofs.Bytes.{after_none, after_more}
use Rattle.wire_frame.proofs.Sums.{is_checksum, same_sum}
use Rattle.wire_frame.proofs.Generators.{ccitt_sum, ccitt-lt}
use Rattle.wire_frame.proofs.checksum.hcs.Goals as goal

pub loop-byte-init : goal.loop-byte-init
loop-byte-init c = after_none CCITT 65535

pub loop-byte-preserved : goal.loop-byte-preserved
loop-byte-preserved c =
    let bytes = c.args.bytes.now in
    let more = after_more CCITT 65535 bytes c.loop-byte.byte-index (omega arith) in
    let step = ap (λ r. after_byte CCITT r (get_or bytes c.loop-byte.byte-index 0)) c.loop-byte.invariant in
    c.ccitt_after-register.ensures ∙ step ∙ sym more

pub returns-clause-is : goal.returns-clause-is
returns-clause-is c =
    let bytes = c.args.bytes.now in
    let all : take c.loop-byte.byte-index bytes ≡ bytes = take_all _ bytes (omega arith) in
    let is : c.loop-byte.register ≡ after_bytes CCITT 65535 bytes
    = c.loop-byte.invariant ∙ ap (after_bytes CCITT 65535) all in
    let below = ccitt-lt bytes in
    is_checksum ccitt bytes _ (ccitt_sum bytes _ (omega (arith, is, below)))

pub returns-clause-only : goal.returns-clause-only
returns-clause-only c = λ sum is. same_sum ccitt c.args.bytes.now sum _ is (returns-clause-is c)
