-- The lines so far are decoded, and no read or write failed.
use Rattle.std.proofs.Common.{◌≡◌}
use Rattle.text_stream.specs.Told.{untold}
use Rattle.decode_command.proofs.JsonDecoding.{Telling}
use Rattle.decode_command.proofs.json_lines.decode_json_lines.Given as goal

abbrev pub invariant-loop-line : goal.invariant-loop-line
invariant-loop-line g l =
    Telling l.form (g.R.Source.remaining l.initial.reader) (untold l.lines (g.R.Source.remaining l.reader))
    (g.W.Sink.contents l.initial.writer) (g.W.Sink.contents l.writer) l.is_well l.line
    × (g.R.Source.has_failed l.reader ≡ g.R.Source.has_failed l.initial.reader)
    × (g.W.Sink.has_failed l.writer ≡ g.W.Sink.has_failed l.initial.writer)
