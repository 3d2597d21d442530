-- The least so far.
use Rattle.std.proofs.Common.{◌≡◌, ◌∷◌, take, get_or}
use Rattle.sched_history.specs.Time.{least}
use Rattle.sched_history.proofs.scheduler.state.least_of.Given as goal

abbrev pub invariant-loop-number : goal.invariant-loop-number
invariant-loop-number l = l.least ≡ least (get_or l.numbers 0 0 ∷ take l.number-index l.numbers)
