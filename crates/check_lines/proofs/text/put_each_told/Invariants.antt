-- Writing bad lines one after the other.
use Rattle.std.proofs.Common.{◌≡◌, take, flat_map}
use Rattle.std.specs.Io.KnownBytes.{Appends}
use Rattle.check_lines.specs.Text.{told_text}
use Rattle.check_lines.proofs.text.put_each_told.Given as goal

-- the lines so far are written, and no write failed
abbrev pub invariant-loop-line : goal.invariant-loop-line
invariant-loop-line g l =
    Appends (g.W.Sink.contents l.initial.writer) (g.W.Sink.contents l.writer)
    (flat_map told_text (take l.line-index l.told))
    × (g.W.Sink.has_failed l.writer ≡ g.W.Sink.has_failed l.initial.writer)
