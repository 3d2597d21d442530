-- What is found in a journal, and what is written of it.
use Rattle.std.specs.Prelude.{◌≡◌, ℕ, List, length, Option}
use Rattle.std.specs.Io.KnownBytes.{Appends}
use Rattle.minislots.specs.declared.config.Config.{Config}
use Rattle.sched_calls.specs.declared.reply.Entry.{Entry}
use Rattle.journal_entries.specs.declared.end.EntriesEnd.{EntriesEnd}
use Rattle.journal_entries.specs.declared.end.EntriesEnd.TheVariants.{Legal, Illegal, Bad}
use Rattle.journal_entries.specs.Judging.{FindsLegal, FindsIllegal, FindsBad}
use Rattle.check_lines.specs.declared.form.CheckForm.{CheckForm}
use Rattle.check_lines.specs.Forms.{journal_as}

-- A legal journal has so many entries
pub record FindsEntries (unread left : Option (List ℕ)) (count torn : ℕ) : Type 0 where
  pub config : Config
  pub entries : List Entry
  pub found : FindsLegal unread left config entries torn
  pub count_is : count ≡ length entries

-- what is found in a journal, as its audit finds it: it is legal, with so many entries; or this entry is the first that
-- may not follow those before it; or this line is the first that stands for nothing, before any such entry
abbrev pub FindsEnd : Option (List ℕ) → Option (List ℕ) → ℕ → EntriesEnd → Type 0
FindsEnd unread left count (Legal torn) = FindsEntries unread left count torn
FindsEnd unread left count (Illegal place) = FindsIllegal unread left place
FindsEnd unread left count (Bad line) = FindsBad unread left line

-- A journal was read, and what was found in it was written in this form, with words
pub record ChecksJournal (form : CheckForm) (unread left before after : Option (List ℕ)) (end : EntriesEnd)
    : Type 0 where
  pub count : ℕ
  pub found : FindsEnd unread left count end
  pub words : List ℕ
  pub written : Appends before after (journal_as form end count words)
