-- Another reply has no MAP.
use Rattle.std.proofs.Common.{rules}
use Rattle.sched_storm.proofs.tally.count_map.Goals as goal

pub returns-in_default : goal.returns-in_default
returns-in_default c = search rules
