-- What a later reading finds in the file of a journal, however often it was resumed.
use Rattle.std.specs.Prelude.{◌≡◌, ℕ, ◌-◌, ◌^◌, min, List, [], length, Option, Some}
use Rattle.std.specs.List.{AllByRecursion}
use Rattle.minislots.specs.declared.config.Config.{Config}
use Rattle.sched_calls.specs.declared.reply.Entry.{Entry}
use Rattle.journal_entries.specs.Journal.{FindsLegal}
use Rattle.journal_entries.specs.declared.judging.Judged.{Judged}
use Rattle.journal_entries.specs.declared.judging.Judged.TheVariants as judged
use Rattle.journal_entries.specs.declared.resuming.Resumed.{Resumed}
use Rattle.journal_entries.specs.declared.resuming.Resumed.TheVariants as resumed
use Rattle.journal_entries.specs.Judging.{Finds, Resumes}
use Rattle.journal_file.specs.declared.notes.Note.{Note}
use Rattle.journal_file.specs.Standing.{IsJournal, IsLeft}
use Rattle.laws.specs.LawfulHistory.{IsLawfulHistory, IsCallOfTypes}

-- the scheduler goes on after this history under this configuration, and so many bytes are torn
abbrev pub IsResumedTo : Config → List Entry → ℕ → Resumed → Type 0
IsResumedTo c es torn (resumed.Ready scheduler n) =
    (scheduler.config ≡ c) × (scheduler.history ≡ es) × (n ≡ torn)
IsResumedTo c es torn (resumed.Bad n) = ⊥

-- this history under this configuration is judged legal, and so many bytes are torn
abbrev pub IsJudgedLegal : Config → List Entry → ℕ → Judged → Type 0
IsJudgedLegal c es torn (judged.Legal auditor n) = (auditor.config ≡ c) × (auditor.history ≡ es) × (n ≡ torn)
IsJudgedLegal c es torn (judged.Illegal i entries) = ⊥
IsJudgedLegal c es torn (judged.Bad n) = ⊥

-- Who reads the bytes to their end finds a legal journal of this history, with so many torn bytes, and nothing else:
-- no reading that ends well resumes or judges another
pub record IsReadAs (text : List ℕ) (c : Config) (es : List Entry) (torn : ℕ) : Type 0 where
  pub found : FindsLegal (Some text) (Some []) c es torn
  pub resumed : (left : Option (List ℕ)) (answer : Resumed) → Resumes (Some text) left answer
      → IsResumedTo c es torn answer
  pub judged : (left : Option (List ℕ)) (verdict : Judged) → Finds (Some text) left verdict
      → IsJudgedLegal c es torn verdict

-- A journal of a history that a scheduler may have, in a file that was begun or resumed, with what a failed call has
-- left of one line more behind it, is read as this history, where the numbers of the calls that were added fit
abbrev pub IsFoundAgain : Type 0
IsFoundAgain = (c : Config) (found text : List ℕ) (es : List Entry) (notes : List Note) → IsLawfulHistory c es
    → (left : IsLeft c found text es notes) → AllByRecursion IsCallOfTypes left.journal.added
    → IsReadAs text c es (min (length left.torn) (2 ^ 64 - 1))

-- and so is a journal with nothing behind it
abbrev pub IsWholeAgain : Type 0
IsWholeAgain = (c : Config) (found text : List ℕ) (es : List Entry) (notes : List Note) → IsLawfulHistory c es
    → (journal : IsJournal c found text es notes) → AllByRecursion IsCallOfTypes journal.added
    → IsReadAs text c es 0
