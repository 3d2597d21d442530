-- Writing numbers one after the other.
use Rattle.std.proofs.Common.{◌≡◌, take}
use Rattle.std.specs.Io.KnownBytes.{Appends}
use Rattle.sched_lines.specs.Line.{numbers_text}
use Rattle.sched_lines.proofs.line.put_numbers.Given as goal

-- the numbers so far are written, and no write failed
abbrev pub invariant-loop-number : goal.invariant-loop-number
invariant-loop-number g l = Appends (g.W.Sink.contents l.initial.writer) (g.W.Sink.contents l.writer)
    (numbers_text (take l.number-index l.numbers))
    × (g.W.Sink.has_failed l.writer ≡ g.W.Sink.has_failed l.initial.writer)
