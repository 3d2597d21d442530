-- What is found in a journal, whose bytes come from a reader.
use Rattle.std.specs.Prelude.{◌≡◌, ◌⊎◌, ℕ, ◌+◌, ◌≤◌, List, length, Option}
use Rattle.sched_calls.specs.declared.reply.TheConstants.{MAX_WHOLE_HISTORY}
use Rattle.sched_history.specs.Machine.{Machine}
pub use Rattle.journal_entries.specs.Journal.{FindsLegal, FindsIllegal, FindsNoEntry, HasNoOpening, StopsJournal}
use Rattle.journal_entries.specs.declared.judging.Judged.{Judged}
use Rattle.journal_entries.specs.declared.judging.Judged.TheVariants.{Legal, Illegal, Bad}
use Rattle.journal_entries.specs.declared.resuming.Resumed.{Resumed}
use Rattle.journal_entries.specs.declared.resuming.Resumed.TheVariants as resumed

-- this line, counted from 0, stands for nothing
abbrev pub FindsBad : Option (List ℕ) → Option (List ℕ) → ℕ → Type 0
FindsBad before left n = ((n ≡ 0) × HasNoOpening before left) ⊎ FindsNoEntry before left n

-- what was found in a journal
abbrev pub Finds : Option (List ℕ) → Option (List ℕ) → Judged → Type 0
Finds before left (Legal auditor torn) = FindsLegal before left auditor.config auditor.history torn
Finds before left (Illegal i entries) = FindsIllegal before left i × (i ≤ MAX_WHOLE_HISTORY)
Finds before left (Bad n) = FindsBad before left n

-- a scheduler whose whole history is what the journal stands for, all of it handed over
pub record Continues (before left : Option (List ℕ)) (m : Machine) (torn : ℕ) : Type 0 where
  pub found : FindsLegal before left m.config m.history torn
  pub handed : m.handed ≡ length m.history

-- what a journal is resumed to: a scheduler where it is legal, else the first line that is wrong
abbrev pub Resumes : Option (List ℕ) → Option (List ℕ) → Resumed → Type 0
Resumes before left (resumed.Ready scheduler torn) = Continues before left scheduler torn
Resumes before left (resumed.Bad n) = FindsBad before left n ⊎ ((i : ℕ) × FindsIllegal before left i × (n ≡ i + 1))
