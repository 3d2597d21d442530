-- The lines of the seats so far, and no write failed.
use Rattle.std.proofs.Common.{◌≡◌}
use Rattle.std.specs.Io.KnownBytes.{Appends}
use Rattle.sched_storm.specs.StormLines.{seat_lines}
use Rattle.sched_storm.proofs.lines.put_seats.Given as goal

abbrev pub invariant-loop-number : goal.invariant-loop-number
invariant-loop-number g l =
    Appends (g.W.Sink.contents l.initial.writer) (g.W.Sink.contents l.writer) (seat_lines l.counts l.number)
    × (g.W.Sink.has_failed l.writer ≡ g.W.Sink.has_failed l.initial.writer)
