-- What a journal stands for that was cut behind its first line.
use Rattle.std.specs.Prelude.{◌≡◌, ℕ, ◌≤◌, List, ◌++◌, length, take}
use Rattle.std.specs.List.{AllByRecursion}
use Rattle.minislots.specs.declared.config.Config.{Config}
use Rattle.sched_calls.specs.declared.reply.Entry.{Entry}
use Rattle.sched_history.specs.History.{IsLegal}
use Rattle.text_stream.specs.Lines.{IsWithinLine}
use Rattle.history_writing.specs.Journal.{opening_line, journal_text}
use Rattle.journal_entries.specs.Standing.{ended_lines}
use Rattle.laws.specs.LawfulHistory.{IsLawfulHistory, IsCallOfTypes}
use Rattle.laws.specs.JournalAgain.{IsTextOf}

-- The whole lines of the bytes stand for the configuration and for the first of the entries, which are legal, and
-- behind the last newline stands this
pub record IsFrontOf (c : Config) (es : List Entry) (bytes : List ℕ) : Type 0 where
  pub count : ℕ
  pub lines : List (List ℕ)
  pub torn : List ℕ
  pub bytes_are : bytes ≡ ended_lines lines ++ torn
  pub text : IsTextOf c (take count es) lines
  pub torn_within : IsWithinLine torn
  pub legal : IsLegal c (take count es)

-- so do the first bytes of each journal, where its first line is among them
abbrev pub IsCutJournal : Type 0
IsCutJournal = (c : Config) (es : List Entry) (k : ℕ) → IsLawfulHistory c es → AllByRecursion IsCallOfTypes es
    → length (opening_line c) ≤ k → IsFrontOf c es (take k (journal_text c es))
