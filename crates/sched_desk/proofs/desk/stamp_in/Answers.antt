-- The stamp of the entry at the place.
use Rattle.std.proofs.Common.{arith}
use Rattle.std.proofs.lemmas.Option.{gets}
use Rattle.sched_desk.proofs.desk.stamp_in.Goals as goal

pub returns : goal.returns
returns c = grind (arith, gets)
