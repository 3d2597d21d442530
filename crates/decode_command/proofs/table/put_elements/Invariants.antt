-- Writing the lines of elements one after the other.
use Rattle.std.proofs.Common.{◌≡◌, take}
use Rattle.std.specs.Io.KnownBytes.{Appends}
use Rattle.decode_command.specs.Table.{element_lines}
use Rattle.decode_command.proofs.table.put_elements.Given as goal

-- the lines so far are written, and no write failed
abbrev pub invariant-loop-element : goal.invariant-loop-element
invariant-loop-element g l =
    Appends (g.W.Sink.contents l.initial.writer) (g.W.Sink.contents l.writer)
    (element_lines (take l.element-index l.elements))
    × (g.W.Sink.has_failed l.writer ≡ g.W.Sink.has_failed l.initial.writer)
