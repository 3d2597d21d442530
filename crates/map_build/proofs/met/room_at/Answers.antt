-- The next stop is within the frame.
use Rattle.std.proofs.Common.{arith}
use Rattle.map_build.proofs.Stops.{next_stop-most}
use Rattle.map_build.proofs.met.room_at.Goals as goal

pub loop-spot-init : goal.loop-spot-init
loop-spot-init c =
    (omega (arith, next_stop-most c.args.config.now c.args.spots.now c.args.offset, c.frame-stop.ensures.value), omega (arith, c.frame-stop.ensures.value))
