-- The whole of a conversation with a journal in a file, from the opened file on.
use Rattle.std.specs.Prelude.{◌≡◌, ◌⊎◌, ℕ, Bool, List, Option}
use Rattle.minislots.specs.declared.config.Config.{Config}
use Rattle.sched_calls.specs.declared.reply.Entry.{Entry}
use Rattle.sched_history.specs.Machine.{Machine}
use Rattle.live_command.specs.declared.journal.BeginFault.{BeginFault}
use Rattle.live_command.specs.declared.wording.Wording.{Wording}
use Rattle.live_command.specs.Held.{Held, Ends}
use Rattle.live_command.specs.Going.{WentOn, EndsGoing}
use Rattle.journal_file.specs.declared.fault.JournalFault.{JournalFault}
use Rattle.journal_file.specs.declared.fault.JournalFault.TheVariants.{File, Live}
use Rattle.journal_file.specs.Found.{HasNoLine, ContinuesTo, StopsFile}

-- A scheduler continued behind the entries of the journal that was found
pub record Continued (found : Option (List ℕ)) (after : Machine → Machine → Type 0) : Type 0 where
  pub resumed : Machine
  pub end : ℕ
  pub torn : ℕ
  pub continues : ContinuesTo found resumed end torn
  pub scheduler : Machine
  pub then : after resumed scheduler

-- all lines of the conversation were answered: of a new one, whose journal was begun in a file without a whole line, or
-- of one behind the journal that was found
abbrev pub HeldAll : Wording → Option (List ℕ) → Option (List ℕ) → Option (List ℕ) → Option (List ℕ)
    → Option (List ℕ) → (Config → List Entry → Type 0) → Type 0
HeldAll wording found unread left before written stands =
    (HasNoLine found × Held wording unread left before written stands)
    ⊎ Continued found (λ old new. WentOn wording old new unread left before written (stands old.config))

-- it ended early: what was found is no journal, and nothing was read of the input, or changed; or the conversation
-- ended, a new one or one behind the journal that was found
abbrev pub EndsEarly : Wording → Option (List ℕ) → Bool → Option (List ℕ) → Option (List ℕ) → Option (List ℕ)
    → Option (List ℕ) → (Config → BeginFault → Type 0) → (Config → List Entry → Type 0)
    → (Config → List Entry → Type 0) → Type 0 → Type 0 → JournalFault → Type 0
EndsEarly wording found may_misread unread left before written refuses may stands untouched quiet (File fault) =
    StopsFile found may_misread fault × untouched × (left ≡ unread)
EndsEarly wording found may_misread unread left before written refuses may stands untouched quiet (Live fault) =
    (HasNoLine found × Ends wording unread left before written refuses may stands untouched quiet fault)
    ⊎ Continued found (λ old new. EndsGoing wording old new unread left before written (refuses old.config)
    (may old.config) (stands old.config) untouched quiet fault)
