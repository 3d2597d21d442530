-- The token stays as it was, but for what it looked for and did not find.
use Rattle.std.proofs.Common.{◌≡◌}
use Rattle.call_queue.proofs.tray.Tray.wait.Given as goal

abbrev pub invariant-loop : goal.invariant-loop
invariant-loop g l = l.mine ≡ record l.fn.waiting { missed = l.mine.missed }
