-- What was told of a journal.
use Rattle.std.specs.Prelude.{List, ◌++◌, Option, option_map}
use Rattle.journal_file.specs.declared.notes.Note.{Note}

-- the notes that were told, where they are known, and these behind them
abbrev pub told_more : Option (List Note) → List Note → Option (List Note)
told_more told notes = option_map (λ before. before ++ notes) told
