-- Each field that was read is the one that the definition names.
use Rattle.std.proofs.Common.{refl, sym}
use Rattle.call_reading.specs.Calls.{polled_of}
use Rattle.json_fields.proofs.Fields.{then}
use Rattle.call_reading.proofs.flow.polled_of.Goals as goal

pub returns : goal.returns
unfolding polled_of
returns g c =
    let read = c.in-Some-Some-Some-Some-Some in
    sym (then _ read.ensures (then _ read.ensures' (then _ read.ensures'' (then _ read.ensures''' (
    then _ read.ensures'''' refl)))))
