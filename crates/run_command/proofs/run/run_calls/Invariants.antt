-- The calls so far, and their answers, whose lines are written or wait, and no write failed.
use Rattle.std.proofs.Common.{◌≡◌, take}
use Rattle.std.specs.Io.KnownBytes.{append_known}
use Rattle.run_command.specs.Run.{line_with}
use Rattle.run_command.proofs.Running.{Runs}
use Rattle.run_command.proofs.run.run_calls.Given as goal

abbrev pub invariant-loop-place : goal.invariant-loop-place
invariant-loop-place g l =
    Runs (line_with l.words) l.initial.scheduler l.scheduler (take l.place l.calls)
    (g.W.Sink.contents l.initial.writer) (append_known (g.W.Sink.contents l.writer) l.lines)
    × (g.W.Sink.has_failed l.writer ≡ g.W.Sink.has_failed l.initial.writer)
