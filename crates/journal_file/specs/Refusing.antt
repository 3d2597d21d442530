-- When a file may refuse to be begun as a journal.
use Rattle.std.specs.Prelude.{◌≡◌, ℕ, List, [], ◌++◌, length, Option, None, Some}
use Rattle.minislots.specs.declared.config.Config.{Config}
use Rattle.history_writing.specs.Journal.{opening_line}
use Rattle.text_stream.specs.Lines.{IsWithinLine}
use Rattle.live_command.specs.declared.journal.BeginFault.{BeginFault}
use Rattle.live_command.specs.declared.journal.BeginFault.TheVariants as begins
use Rattle.journal_file.specs.declared.place.Place.{Place}
use Rattle.journal_file.specs.declared.place.Place.TheVariants as place

-- where the bytes of a file are known, and are so many, they are no proper prefix of the line
abbrev pub IsNoFront : List ℕ → ℕ → Option (List ℕ) → Type 0
IsNoFront line n None = Unit {0}
IsNoFront line n (Some text) = n ≡ length text → (others : List ℕ) → line ≡ text ++ others → others ≡ []

-- why a file with these bytes, where they are known, may refuse to begin a journal: one without a newline for want of
-- memory, or for other bytes than a front of the opening's line; and each for a call that fails
abbrev pub RefusesBytes : Option (List ℕ) → Config → BeginFault → Type 0
RefusesBytes None c why = Unit {0}
RefusesBytes (Some text) c begins.Memory = IsWithinLine text
RefusesBytes (Some text) c begins.Other =
    IsWithinLine text × ((others : List ℕ) → opening_line c ≡ text ++ others → others ≡ [])
RefusesBytes (Some text) c begins.Failed = Unit {0}

-- why a file may refuse, by how far it is a journal: one without a whole line for want of memory, for other bytes than
-- a front of the opening's line, or for a call that fails; and one that was resumed for a call that fails
abbrev pub MayRefuse : Place → Option (List ℕ) → Config → BeginFault → Type 0
MayRefuse place.Unread known c why = ⊥
MayRefuse (place.NoLine n) known c begins.Memory = Unit {0}
MayRefuse (place.NoLine n) known c begins.Other = IsNoFront (opening_line c) n known
MayRefuse (place.NoLine n) known c begins.Failed = Unit {0}
MayRefuse (place.Resumed entries end torn) known c begins.Memory = ⊥
MayRefuse (place.Resumed entries end torn) known c begins.Other = ⊥
MayRefuse (place.Resumed entries end torn) known c begins.Failed = Unit {0}
MayRefuse place.Whole known c why = ⊥
MayRefuse place.Failed known c why = ⊥
