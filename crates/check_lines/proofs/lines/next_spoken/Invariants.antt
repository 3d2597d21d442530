-- The lines so far are blank, and each had a byte at least.
use Rattle.std.proofs.Common.{◌≡◌, ◌+◌, ◌≤◌, length}
use Rattle.text_stream.specs.Lines.{lines_of}
use Rattle.live_command.specs.Spoken.{spoken}
use Rattle.check_lines.proofs.lines.next_spoken.Given as goal

abbrev pub invariant-loop : goal.invariant-loop
invariant-loop l = record {
  blank : spoken (lines_of l.bytes) ≡ spoken (lines_of l.left);
  shorter : length l.left + l.counter ≤ length l.bytes;
}
