-- The first of the spots that are left is the next stop.
use Rattle.std.proofs.Common.{sym}
use Rattle.map_build.proofs.Left.{stop-first}
use Rattle.map_build.proofs.walk.next_stop.Goals as goal

pub returns-in-Some-clause-value : goal.returns-in-Some-clause-value
returns-in-Some-clause-value c =
    sym (rw (← c.in-Some.ensures.value) at (stop-first c.args.config.now c.args.spots.now c.args.offset
    c.requires.placed c.requires.ahead))
