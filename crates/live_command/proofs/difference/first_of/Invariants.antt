-- The numbers so far are the same, so what is left decides.
use Rattle.std.proofs.Common.{◌≡◌, drop}
use Rattle.live_command.specs.Difference.{first_of}
use Rattle.live_command.proofs.difference.first_of.Given as goal

abbrev pub invariant-loop-difference : goal.invariant-loop-difference
invariant-loop-difference l = first_of (drop l.difference-index l.fields) ≡ first_of l.fields
