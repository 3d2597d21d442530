-- The calls so far, for each of which there was memory.
use Rattle.std.proofs.Common.{take}
use Rattle.draw_command.specs.Drawing.{MakesWhole}
use Rattle.draw_command.proofs.draw.make_whole.Given as goal

abbrev pub invariant-loop-place : goal.invariant-loop-place
invariant-loop-place l = MakesWhole l.initial.scheduler l.scheduler (take l.place l.calls)
