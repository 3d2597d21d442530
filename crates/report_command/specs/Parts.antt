-- How the reports on the parts of a history are written.
use Rattle.std.specs.Prelude.{◌≡◌, ◌⊎◌, ℕ, ◌<◌, ◌≤◌, Bool, true, List, ◌++◌, length, Option}
use Rattle.std.specs.Io.KnownBytes.{Appends}
use Rattle.sched_calls.specs.declared.reply.Entry.{Entry}
use Rattle.sched_calls.specs.declared.reply.TheConstants.{MAX_WHOLE_HISTORY}
use Rattle.sched_history.specs.History.{IsStep}
use Rattle.sched_history.specs.declared.fault.JudgeFault.{JudgeFault}
use Rattle.sched_history.specs.declared.fault.JudgeFault.TheVariants.{Illegal, Full, Memory}
use Rattle.text_stream.specs.declared.fault.TextFault.TheVariants as faults
use Rattle.sched_report.specs.Window.{Window}
use Rattle.report_command.specs.declared.form.Form.{Form}
use Rattle.report_command.specs.declared.parts.Untold.{Untold}
use Rattle.report_command.specs.declared.parts.Untold.TheVariants.{Judged, Text}
use Rattle.report_command.specs.Form.{Says}
use Rattle.report_command.specs.Series.{Serial, heading, with_entry, IsTellerOf, TellsParts}

-- The heading of a part that begins with this millisecond was written, and the report on it, and nothing else
pub record IsPartSaid (form : Form) (w : Window) (ms : ℕ) (before after : Option (List ℕ)) : Type 0 where
  pub report : List ℕ
  pub says : Says form w report
  pub written : Appends before after (heading form ms ++ report)

-- An entry was taken, and what was written tells of the part that is over with it, if one is
pub record TellsMore (form : Form) (old new : Serial) (e : Entry) (before after : Option (List ℕ)) : Type 0 where
  pub entered : new ≡ with_entry old e
  pub few : length old.told.history < MAX_WHOLE_HISTORY
  pub more : List ℕ
  pub written : Appends before after more
  pub tells : (text : List ℕ) → IsTellerOf form old text → IsTellerOf form new (text ++ more)

-- What was written tells of the part that goes on, if one does
pub record TellsRest (form : Form) (s : Serial) (before after : Option (List ℕ)) : Type 0 where
  pub last : List ℕ
  pub written : Appends before after last
  pub tells : (text : List ℕ) → IsTellerOf form s text
      → TellsParts form s.told.config s.every s.told.history (text ++ last)

-- why an entry was not taken
abbrev pub IsUntaken : Serial → Entry → JudgeFault → Type 0
IsUntaken s e Illegal = IsStep s.told.config s.told.history e.call e.reply → ⊥
IsUntaken s e Full = MAX_WHOLE_HISTORY ≤ length s.told.history
IsUntaken s e Memory = Unit {0}

-- why an entry was not told of: where it was not taken, nothing was written
abbrev pub IsUntold : Serial → Entry → Option (List ℕ) → Option (List ℕ) → Bool → Bool → Untold → Type 0
IsUntold s e before after old new (Judged fault) = IsUntaken s e fault × (after ≡ before) × (new ≡ old)
IsUntold s e before after old new (Text fault) =
    (fault ≡ faults.Memory) ⊎ ((fault ≡ faults.Output) × (new ≡ true))
