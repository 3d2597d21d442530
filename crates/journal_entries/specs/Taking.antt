-- What an auditor says of one line of a journal.
use Rattle.std.specs.Prelude.{◌≡◌, ℕ, ◌≤◌, List, [], ◌∷◌, ◌++◌, length, None, Some}
use Rattle.sched_calls.specs.declared.reply.Entry.{Entry}
use Rattle.sched_calls.specs.declared.reply.TheConstants.{MAX_WHOLE_HISTORY}
use Rattle.sched_history.specs.History.{IsStep, IsLegal}
use Rattle.sched_history.specs.Machine.{Past}
use Rattle.sched_calls.specs.Reply.{IsEncodable}
use Rattle.text_stream.specs.declared.fault.TextFault.{TextFault}
use Rattle.text_stream.specs.declared.fault.TextFault.TheVariants.{Input, TooLong, NotJson, Shape, Config, Memory}
use Rattle.text_stream.specs.declared.fault.TextFault.TheVariants.{Output}
use Rattle.journal_entries.specs.declared.line.Taken.{Taken}
use Rattle.journal_entries.specs.declared.line.Taken.TheVariants as taken
use Rattle.journal_entries.specs.Standing.{entry_in_line}

-- The line stands for an entry, which was taken
pub record TakesEntry (old new : Past) (line : List ℕ) (entry : Entry) : Type 0 where
  pub is : entry_in_line line ≡ Some entry
  pub taken : new ≡ record old { history = old.history ++ entry ∷ [] }
  pub legal : IsLegal new.config new.history
  pub encodable : IsEncodable entry.reply

-- The line stands for an entry that may not follow those that were taken, which stay
pub record MeetsIllegal (old new : Past) (line : List ℕ) : Type 0 where
  pub entry : Entry
  pub is : entry_in_line line ≡ Some entry
  pub no_step : IsStep old.config old.history entry.call entry.reply → ⊥
  pub same : new ≡ old

-- what comes of a line
abbrev pub Takes : Past → Past → List ℕ → Taken → Type 0
Takes old new line (taken.Entry entry) = TakesEntry old new line entry
Takes old new line taken.Illegal = MeetsIllegal old new line
Takes old new line taken.NoEntry = (entry_in_line line ≡ None) × (new ≡ old)

-- why a line is not judged: it is an entry, and as many were taken as an auditor takes; or memory ran out
abbrev pub StopsTaking : Past → List ℕ → TextFault → Type 0
StopsTaking old line Input = ⊥
StopsTaking old line TooLong =
    (entry : Entry) × (entry_in_line line ≡ Some entry) × (MAX_WHOLE_HISTORY ≤ length old.history)
StopsTaking old line NotJson = ⊥
StopsTaking old line (Shape n) = ⊥
StopsTaking old line (Config field) = ⊥
StopsTaking old line Memory = Unit {0}
StopsTaking old line Output = ⊥
