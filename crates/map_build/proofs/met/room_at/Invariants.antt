-- The first stop so far, or one of the spots that are left, is the next stop.
use Rattle.std.proofs.Common.{◌≡◌, ◌≤◌, min, drop}
use Rattle.map_build.specs.Plan.{next_stop}
use Rattle.map_build.proofs.met.room_at.Given as goal

abbrev pub invariant-loop-spot : goal.invariant-loop-spot
invariant-loop-spot l =
    (min l.stop (next_stop l.config (drop l.spot-index l.spots) l.offset) ≡ next_stop l.config l.spots l.offset)
    × (l.stop ≤ l.config.frame)
