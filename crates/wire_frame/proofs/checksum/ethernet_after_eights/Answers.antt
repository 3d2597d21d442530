-- The register takes eight bytes more, up to the last.
use Rattle.std.proofs.Common.{◌≡◌, ◌+◌, ◌-◌, ◌*◌, ap, ◌∙◌, arith, take, drop, take_all}
use Rattle.wire_frame.specs.declared.tables.TheConstants.{ETHERNET}
use Rattle.wire_frame.specs.Register.{after_bytes}
use Rattle.wire_frame.proofs.Bytes.{after_none}
use Rattle.wire_frame.proofs.Eights.{eight_more}
use Rattle.wire_frame.proofs.checksum.ethernet_after_eights.Goals as goal

pub loop-place-init : goal.loop-place-init
loop-place-init c = after_none ETHERNET 4294967295

pub loop-place-preserved : goal.loop-place-preserved
loop-place-preserved c =
    let bytes = c.args.bytes.now in
    let place = c.loop-place.place in
    c.ethernet_after_eight-state.ensures
    ∙ ap (λ r. after_bytes ETHERNET r (take (8 * place + 8 - 8 * place) (drop (8 * place) bytes)))
    c.loop-place.invariant
    ∙ eight_more ETHERNET 4294967295 bytes place

pub returns : goal.returns
returns c =
    let bytes = c.args.bytes.now in
    let all : take (8 * c.loop-place.place) bytes ≡ bytes = take_all _ bytes (omega arith) in
    c.loop-place.invariant ∙ ap (after_bytes ETHERNET 4294967295) all
