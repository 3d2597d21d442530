-- What the bytes of a journal's file are, beside those that were found in it.
use Rattle.std.specs.Prelude.{◌≡◌, ◌⊎◌, ℕ, ◌==◌, if◌then◌else◌, List, [], ◌∷◌, ◌++◌, take, length, flat_map}
use Rattle.std.specs.Prelude.{Option, Some}
use Rattle.serde_json.specs.Data.{Data}
use Rattle.serde_json.specs.Written.{compact_text}
use Rattle.minislots.specs.declared.config.Config.{Config}
use Rattle.sched_calls.specs.declared.reply.Entry.{Entry}
use Rattle.text_stream.specs.Lines.{IsWithinLine}
use Rattle.history_writing.specs.Journal.{opening_line, entry_line}
use Rattle.journal_entries.specs.Judging.{FindsLegal}
use Rattle.journal_entries.specs.Standing.{ended_lines}
use Rattle.journal_file.specs.declared.notes.Note.{Note}
use Rattle.journal_file.specs.declared.notes.Note.TheVariants.{Resumed, Cut}

-- The bytes were found without a newline, and are the first ones of the opening's line, which the file begins with now
pub record IsBegun (c : Config) (found front : List ℕ) (resumed : List Entry) : Type 0 where
  pub within : IsWithinLine found
  pub lacked : List ℕ
  pub opening : opening_line c ≡ found ++ lacked
  pub front_is : front ≡ opening_line c
  pub none : resumed ≡ []

-- The bytes were found as a legal journal of these entries, with so many torn bytes behind; its whole lines stay
pub record IsResumed (c : Config) (found front : List ℕ) (resumed : List Entry) (torn : ℕ) : Type 0 where
  pub left : Option (List ℕ)
  pub legal : FindsLegal (Some found) left c resumed torn
  pub front_is : front ≡ ended_lines legal.lines

-- what is told of a journal that is resumed: how many entries it has, and how many torn bytes were cut off
abbrev pub notes_of : ℕ → ℕ → List Note
notes_of entries torn = if torn == 0 then Resumed entries ∷ [] else Resumed entries ∷ Cut torn ∷ []

-- what entries are put behind, and what was told of it
abbrev pub IsFront : Config → List ℕ → List ℕ → List Entry → List Note → Type 0
IsFront c found front resumed notes = (IsBegun c found front resumed × (notes ≡ []))
    ⊎ ((torn : ℕ) × IsResumed c found front resumed torn × (notes ≡ notes_of (length resumed) torn))

-- A journal: the front, and behind it the lines of entries
pub record IsJournal (c : Config) (found text : List ℕ) (es : List Entry) (notes : List Note) : Type 0 where
  pub front : List ℕ
  pub resumed : List Entry
  pub begins : IsFront c found front resumed notes
  pub added : List Entry
  pub entries_are : es ≡ resumed ++ added
  pub text_is : text ≡ front ++ flat_map entry_line added

-- The first bytes of a value in compact form, which are those of its line without the newline
pub record IsPartOfLine (text : List ℕ) : Type 0 where
  pub value : Data
  pub count : ℕ
  pub part : text ≡ take count (compact_text value)

-- A journal, and behind it what a call that failed has left of one line more
pub record IsLeft (c : Config) (found text : List ℕ) (es : List Entry) (notes : List Note) : Type 0 where
  pub whole : List ℕ
  pub torn : List ℕ
  pub text_is : text ≡ whole ++ torn
  pub torn_is : IsPartOfLine torn
  pub journal : IsJournal c found whole es notes

-- the bytes that were found, and behind them the first ones of those that they lack of the opening's line
abbrev pub IsPartBegun : Config → List ℕ → List ℕ → Type 0
IsPartBegun c found text =
    (lacked : List ℕ) × (k : ℕ) × (opening_line c ≡ found ++ lacked) × (text ≡ found ++ take k lacked)

-- the bytes where a journal was to begin, and a call failed: those that were found, or a part of the opening's line is
-- behind them, or the torn ones were cut off
abbrev pub IsUnbegun : Config → List ℕ → List ℕ → List Entry → Type 0
IsUnbegun c found text es = (IsWithinLine found × (es ≡ []) × ((text ≡ found) ⊎ IsPartBegun c found text))
    ⊎ ((front : List ℕ) × (torn : ℕ) × IsResumed c found front es torn × ((text ≡ found) ⊎ (text ≡ front)))
