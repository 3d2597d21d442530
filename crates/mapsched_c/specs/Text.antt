-- What is answered of the text of a history.
use Rattle.std.specs.Prelude.{◌≡◌, ℕ, ◌+◌, ◌<◌, ◌≤◌, ◌⊎◌, ◌++◌, List, length, drop, Option, None, Some, Result, Ok, Err}
use Rattle.minislots.specs.declared.config.Config.{Config as Configuration}
use Rattle.sched_calls.specs.declared.reply.Entry.{Entry}
use Rattle.sched_history.specs.History.{IsLegal}
use Rattle.sched_history.specs.Machine.{Machine}
use Rattle.sched_history.specs.Audit.{IsFirstIllegal}
use Rattle.text_stream.specs.declared.fault.TextFault.{TextFault}
use Rattle.text_stream.specs.declared.fault.TextFault.TheVariants.{Input, TooLong, NotJson, Shape, Config, Memory}
use Rattle.text_stream.specs.declared.fault.TextFault.TheVariants.{Output}
use Rattle.text_stream.specs.Fault.{field_number}
use Rattle.history_writing.specs.HistoryText.{history_text}
use Rattle.history_reading.specs.Recorded.{History, history_outcome}
use Rattle.mapsched_c.specs.declared.status.TheConstants.{OK, EMPTY, OUT_OF_MEMORY, NO_ROOM, ILLEGAL, TOO_LONG}
use Rattle.mapsched_c.specs.declared.status.TheConstants.{NOT_JSON, NO_HISTORY, BAD_CONFIG, HANDED_OVER}

-- The text stands at the front of the room, and the rest stays; or it is longer than the room, which stays. Its length
-- is told
abbrev pub GivesText : List ℕ → ℕ → List ℕ → List ℕ → ℕ → Type 0
GivesText text status before after told = (told ≡ length text)
    × (((status ≡ OK) × (length text ≤ length before) × (after ≡ text ++ drop (length text) before))
    ⊎ ((status ≡ NO_ROOM) × (length before < length text) × (after ≡ before)))

-- the text of the history in a handle is given, or memory ran out; where some of it was handed over, or there is none,
-- nothing is written
abbrev pub GivesHistoryText : Option Machine → ℕ → List ℕ → List ℕ → ℕ → ℕ → Type 0
GivesHistoryText None status before after untold told = (status ≡ EMPTY) × (after ≡ before) × (told ≡ untold)
GivesHistoryText (Some m) status before after untold told =
    ((m.handed ≡ 0) × (GivesText (history_text m.config m.history) status before after told
    ⊎ ((status ≡ OUT_OF_MEMORY) × (after ≡ before) × (told ≡ untold))))
    ⊎ ((0 < m.handed) × (status ≡ HANDED_OVER) × (after ≡ before) × (told ≡ untold))

-- a history is legal, and its length is told; or its first illegal entry is; or memory ran out
abbrev pub Judges : Configuration → List Entry → ℕ → ℕ → ℕ → Type 0
Judges c h status untold told = ((status ≡ OK) × IsLegal c h × (told ≡ length h))
    ⊎ (((status ≡ ILLEGAL) × IsFirstIllegal c h told) ⊎ ((status ≡ OUT_OF_MEMORY) × (told ≡ untold)))

-- a text that has a fault is no history, and why
abbrev pub TellsFault : TextFault → ℕ → ℕ → ℕ → Type 0
TellsFault Input status untold told = ⊥
TellsFault TooLong status untold told = (status ≡ TOO_LONG) × (told ≡ untold)
TellsFault NotJson status untold told = (status ≡ NOT_JSON) × (told ≡ untold)
TellsFault (Shape n) status untold told = (status ≡ NO_HISTORY) × (told ≡ n)
TellsFault (Config field) status untold told = (status ≡ BAD_CONFIG + field_number field) × (told ≡ untold)
TellsFault Memory status untold told = ⊥
TellsFault Output status untold told = ⊥

-- what is answered of what a text stands for: a history, or its first fault
abbrev pub AuditsOutcome : Result History TextFault → ℕ → ℕ → ℕ → Type 0
AuditsOutcome (Ok h) status untold told = Judges h.config h.entries status untold told
AuditsOutcome (Err fault) status untold told = TellsFault fault status untold told

-- a text is audited, or memory ran out and nothing is told
abbrev pub Audits : List ℕ → ℕ → ℕ → ℕ → Type 0
Audits text status untold told = AuditsOutcome (history_outcome text) status untold told
    ⊎ ((status ≡ OUT_OF_MEMORY) × (told ≡ untold))
