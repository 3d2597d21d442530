-- The trays that are made are of this lock.
use Rattle.std.proofs.Common.{◌≡◌}
use Rattle.std.specs.List.{All}
use Rattle.call_queue.proofs.queue.lay.Given as goal

abbrev pub invariant-loop : goal.invariant-loop
invariant-loop g l = (l.about.value ≡ l.lock) × All (λ t. t.about.value ≡ l.lock) l.trays.items
