-- What is answered of the lines of a journal.
use Rattle.std.specs.Prelude.{◌≡◌, ℕ, ◌⊎◌, List, flat_map, Option, None, Some}
use Rattle.sched_calls.specs.declared.reply.Entry.{Entry}
use Rattle.sched_history.specs.Machine.{Machine, kept_of}
use Rattle.history_writing.specs.Journal.{opening_line, entry_line}
use Rattle.mapsched_c.specs.declared.status.TheConstants.{EMPTY, OUT_OF_MEMORY}
use Rattle.mapsched_c.specs.Text.{GivesText}

-- the lines of entries, one behind the other
abbrev pub lines_of : List Entry → List ℕ
lines_of es = flat_map entry_line es

-- a text is given, or memory ran out and nothing is written
abbrev pub GivesTextOrNone : List ℕ → ℕ → List ℕ → List ℕ → ℕ → ℕ → Type 0
GivesTextOrNone text status before after untold told = GivesText text status before after told
    ⊎ ((status ≡ OUT_OF_MEMORY) × (after ≡ before) × (told ≡ untold))

-- the lines of the entries that are kept are given; where there is no scheduler nothing is written
abbrev pub GivesLines : Option Machine → ℕ → List ℕ → List ℕ → ℕ → ℕ → Type 0
GivesLines None status before after untold told = (status ≡ EMPTY) × (after ≡ before) × (told ≡ untold)
GivesLines (Some m) status before after untold told =
    GivesTextOrNone (lines_of (kept_of m)) status before after untold told

-- the first line of a journal is given, that of the configuration; where there is no scheduler nothing is written
abbrev pub GivesOpening : Option Machine → ℕ → List ℕ → List ℕ → ℕ → ℕ → Type 0
GivesOpening None status before after untold told = (status ≡ EMPTY) × (after ≡ before) × (told ≡ untold)
GivesOpening (Some m) status before after untold told =
    GivesTextOrNone (opening_line m.config) status before after untold told
