-- The lines so far are decoded, and no read or write failed.
use Rattle.std.proofs.Common.{◌≡◌}
use Rattle.text_stream.specs.Told.{untold}
use Rattle.decode_command.specs.Lines.{start_at}
use Rattle.decode_command.proofs.Decoding.{Decoding}
use Rattle.decode_command.proofs.lines.decode_lines.Given as goal

abbrev pub invariant-loop-line : goal.invariant-loop-line
invariant-loop-line g l =
    Decoding (start_at l.form l.columns (g.R.Source.remaining l.initial.reader)
    (g.W.Sink.contents l.initial.writer) (g.E.Sink.contents l.initial.errors))
    (untold l.lines (g.R.Source.remaining l.reader)) (g.W.Sink.contents l.writer) (g.E.Sink.contents l.errors)
    (g.E.Sink.has_failed l.errors) l.is_first l.is_well l.line
    × (g.R.Source.has_failed l.reader ≡ g.R.Source.has_failed l.initial.reader)
    × (g.W.Sink.has_failed l.writer ≡ g.W.Sink.has_failed l.initial.writer)
