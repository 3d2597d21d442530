-- What a call through a handle answers, and what is in the handle then.
use Rattle.std.specs.Prelude.{◌≡◌, ℕ, true, false, ◌<◌, ◌≤◌, ◌⊎◌, ◌++◌, ◌∷◌, [], length, Option, None, Some}
use Rattle.minislots.specs.declared.stamp.Stamp.{Stamp}
use Rattle.sched_calls.specs.declared.call.Call.{Call}
use Rattle.sched_calls.specs.declared.reply.Reply.{Reply}
use Rattle.sched_history.specs.History.{IsStep, IsLegal}
use Rattle.sched_history.specs.Machine.{Machine, is_full, MayLackMemory}
use Rattle.mapsched_c.specs.declared.reply.PlainReply.{PlainReply}
use Rattle.mapsched_c.specs.declared.status.TheConstants.{OK, EMPTY, BAD_CALL, HISTORY_FULL, OUT_OF_MEMORY}
use Rattle.mapsched_c.specs.Reply.{plain_reply}

-- the history in the handle is legal
abbrev pub IsLegalIn : Option Machine → Type 0
IsLegalIn None = Unit {0}
IsLegalIn (Some m) = IsLegal m.config m.history

-- The call was recorded with its stamp and a reply that may follow the history, and the reply was written
pub record IsRecorded (m : Machine) (new : Option Machine) (stamp : Stamp) (call : Call)
    (before after : PlainReply) : Type 0 where
  pub reply : Reply
  pub room : is_full m ≡ false
  -- where nothing was handed over the whole history is kept
  pub whole : m.handed ≡ 0 → length m.history < m.config.calls
  pub step : IsStep m.config m.history call reply
  pub recorded : new
      ≡ Some (record m { history = m.history ++ record { stamp = stamp; call = call; reply = reply } ∷ [] })
  pub told : after ≡ plain_reply before reply
  pub legal : IsLegalIn new

-- why a call was not recorded: the scheduler is full, or it is not and memory ran out where the call takes some; where
-- nothing was handed over the whole history is kept
abbrev pub LacksRoom : Machine → Call → ℕ → Type 0
LacksRoom m call status = ((status ≡ HISTORY_FULL) × (is_full m ≡ true)
    × (m.handed ≡ 0 → m.config.calls ≤ length m.history))
    ⊎ ((status ≡ OUT_OF_MEMORY) × (is_full m ≡ false) × MayLackMemory m.config m.history call)

-- nothing changes, and nothing is written
abbrev pub Stays : Option Machine → Option Machine → PlainReply → PlainReply → Type 0
Stays old new before after = (new ≡ old) × (after ≡ before)

-- a call of the scheduler is recorded, or why not
abbrev pub AnswersCall : Machine → Option Machine → Stamp → Call → ℕ → PlainReply → PlainReply → Type 0
AnswersCall m new stamp call status before after =
    ((status ≡ OK) × IsRecorded m new stamp call before after)
    ⊎ (LacksRoom m call status × Stays (Some m) new before after)

-- what stands in a handle, a stamp, the numbers of a call, and what comes of them
abbrev pub Answers : Option Machine → Option Machine → Stamp → Option Call → ℕ → PlainReply → PlainReply → Type 0
Answers None new stamp call status before after = (status ≡ EMPTY) × Stays None new before after
Answers (Some m) new stamp None status before after = (status ≡ BAD_CALL) × Stays (Some m) new before after
Answers (Some m) new stamp (Some call) status before after = AnswersCall m new stamp call status before after
