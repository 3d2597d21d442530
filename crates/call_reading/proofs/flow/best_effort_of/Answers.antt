-- Each field that was read is the one that the definition names.
use Rattle.std.proofs.Common.{refl, sym}
use Rattle.call_reading.specs.Calls.{best_effort_of}
use Rattle.json_fields.proofs.Fields.{then}
use Rattle.call_reading.proofs.flow.best_effort_of.Goals as goal

pub returns : goal.returns
unfolding best_effort_of
returns g c =
    let read = c.in-Some-Some-Some-Some-Some-Some in
    sym (then _ read.ensures (then _ read.ensures' (then _ read.ensures'' (then _ read.ensures''' (
    then _ read.ensures'''' (then _ read.ensures''''' refl))))))
