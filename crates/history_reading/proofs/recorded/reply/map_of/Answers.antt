-- The payload of a MAP is read as that MAP.
use Rattle.std.proofs.Common.{sym}
use Rattle.history_reading.proofs.Payload.{map_of-payload}
use Rattle.history_reading.proofs.recorded.reply.map_of.Goals as goal

pub returns-in-Ok : goal.returns-in-Ok
returns-in-Ok c =
    let found = c.in-Ok.ensures.found in
    sym (map_of-payload c.args.bytes.now c.in-Ok.map found.0 found.1)
