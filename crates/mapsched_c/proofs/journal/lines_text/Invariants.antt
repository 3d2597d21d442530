-- The lines of the entries so far.
use Rattle.std.proofs.Common.{◌≡◌, take}
use Rattle.mapsched_c.specs.Journal.{lines_of}
use Rattle.mapsched_c.proofs.journal.lines_text.Given as goal

abbrev pub invariant-loop-entry : goal.invariant-loop-entry
invariant-loop-entry l = l.text.items ≡ lines_of (take l.entry-index l.entries)
