-- The lines of the entries so far.
use Rattle.std.proofs.Common.{◌≡◌, take}
use Rattle.std.specs.Prelude.{flat_map}
use Rattle.history_writing.specs.Journal.{entry_line}
use Rattle.journal_file.proofs.journal.put_lines.Given as goal

abbrev pub invariant-loop-entry : goal.invariant-loop-entry
invariant-loop-entry l = l.text.items ≡ flat_map entry_line (take l.entry-index l.entries)
