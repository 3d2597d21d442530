-- Each field that was read is the one that the definition names.
use Rattle.std.proofs.Common.{refl, sym}
use Rattle.call_reading.specs.Calls.{header_call}
use Rattle.json_fields.proofs.Fields.{then}
use Rattle.call_reading.proofs.call.header_call.Goals as goal

pub returns : goal.returns
unfolding header_call
returns g c = sym (
    then _ c.in_ok-number_u8.ensures (then _ c.in_ok-number_u8-2.ensures (then _ c.in_ok-number_u8-3.ensures (
    then _ c.in_ok-number_u8-4.ensures (then _ c.in_ok-number_u8-5.ensures refl)))))
