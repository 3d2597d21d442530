-- Each field that was read is the one that the definition names.
use Rattle.std.proofs.Common.{refl, sym}
use Rattle.history_reading.specs.Replies.{flow_reply}
use Rattle.json_fields.proofs.Fields.{then}
use Rattle.history_reading.proofs.recorded.reply.flow_reply.Goals as goal

pub returns : goal.returns
unfolding flow_reply
returns g c =
    let read = c.in-Some-Some-Some in
    sym (then _ read.ensures (then _ read.ensures' (then _ read.ensures'' refl)))
