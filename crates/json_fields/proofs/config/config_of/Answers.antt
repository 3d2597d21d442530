-- Each group that was read is the one that the definition names.
use Rattle.std.proofs.Common.{refl, sym}
use Rattle.json_fields.specs.Fields.{config_of}
use Rattle.json_fields.proofs.Fields.{then}
use Rattle.json_fields.proofs.config.config_of.Goals as goal

pub returns : goal.returns
unfolding config_of
returns g c = sym (
    then _ c.in_ok-ticks.ensures (then _ c.in_ok-bursts.ensures (then _ c.in_ok-req_slots.ensures (
    then _ c.in_ok-receivers.ensures (then _ c.in_ok-ranging_start.ensures (then _ c.in_ok-data_start.ensures (
    then _ c.in_ok-phy.ensures (then _ c.in_ok-flows.ensures (
    then _ c.in_ok-open_idle.ensures refl)))))))))
