-- The lines of the opening and of the entries so far, whose numbers fit.
use Rattle.std.proofs.Common.{◌≡◌, ◌++◌, take}
use Rattle.std.specs.Prelude.{flat_map}
use Rattle.std.specs.List.{AllByRecursion}
use Rattle.history_writing.specs.Fits.{EntryFits}
use Rattle.history_writing.specs.Journal.{opening_line, entry_line}
use Rattle.history_writing.proofs.journal.journal_text.Given as goal

abbrev pub invariant-loop-entry : goal.invariant-loop-entry
invariant-loop-entry l =
    (l.text.items ≡ opening_line l.config ++ flat_map entry_line (take l.entry-index l.entries))
    × AllByRecursion EntryFits (take l.entry-index l.entries)
