-- The line ends at the first newline.
use Rattle.std.proofs.Common.{◌+◌, take, drop, ap, ◌∙◌}
use Rattle.std.proofs.lemmas.List.{take_rest}
use Rattle.text_stream.specs.Lines.{lines_of}
use Rattle.text_stream.proofs.Taking.{at_newline, lines_of-line, IsWithinLine-before}
use Rattle.check_lines.proofs.lines.split_line.Goals as goal

pub returns-in-Some-clause-parts : goal.returns-in-Some-clause-parts
returns-in-Some-clause-parts c =
    let bytes = c.args.bytes.now in
    let at = c.in-Some.at in
    let found = c.in-Some.ensures in
    rw (take_rest bytes (at + 1)) (ap lines_of (at_newline bytes at found.0.high found.1)
    ∙ lines_of-line (take at bytes) (drop (at + 1) bytes) (IsWithinLine-before bytes at found.0.before))
