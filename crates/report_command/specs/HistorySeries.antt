-- What the reports on the parts of a history read and write.
use Rattle.std.specs.Prelude.{ℕ, max, Bool, true, false, List, ◌++◌, take, codes, Option, Ok}
use Rattle.std.specs.Io.KnownBytes.{Appends}
use Rattle.minislots.specs.declared.config.Config.{Config as Configuration}
use Rattle.sched_calls.specs.declared.reply.Entry.{Entry}
use Rattle.sched_history.specs.History.{IsLegal}
use Rattle.sched_history.specs.Audit.{IsFirstIllegal}
use Rattle.sched_lines.specs.Line.{number_line}
use Rattle.history_reading.specs.Recorded.{History, GivesHistory}
use Rattle.report_command.specs.declared.form.Form.{Form}
use Rattle.report_command.specs.Series.{TellsEnded, TellsParts}

-- what was written of a history, by whether it is legal: the reports on its parts; or those on the parts that are over
-- before its first entry that may not stand there, and the line of that
abbrev pub IsHistoryTold : Form → Configuration → ℕ → List Entry → Option (List ℕ) → Option (List ℕ) → Bool → Type 0
IsHistoryTold form c every h before after true =
    IsLegal c h × (text : List ℕ) × TellsParts form c every h text × Appends before after text
IsHistoryTold form c every h before after false = (i : ℕ) × IsFirstIllegal c h i × (text : List ℕ)
    × TellsEnded form c every (take i h) text × Appends before after (text ++ number_line (codes "illegal") i)

-- The reader's bytes are a history, and this was written of its parts of so many milliseconds, of one at least
pub record SeriesOfHistory (form : Form) (every : ℕ) (unread left before after : Option (List ℕ)) (legal : Bool)
    : Type 0 where
  pub history : History
  pub read : GivesHistory unread left (Ok history)
  pub told : IsHistoryTold form history.config (max every 1) history.entries before after legal
