-- The law of the acknowledge times and pending grants of MAPs.
use Rattle.laws.proofs.Waits.{every_wait}
use Rattle.laws.proofs.waiting.every_wait.Goals as goal

pub returns : goal.returns
returns c = record { kept = every_wait }
