-- What is written of the state that a history leaves, and how the command ends.
use Rattle.std.specs.Prelude.{ℕ, List, Option}
use Rattle.std.specs.Io.KnownBytes.{Appends}
use Rattle.minislots.specs.declared.config.Config.{Config}
use Rattle.sched_calls.specs.declared.reply.Entry.{Entry}
use Rattle.sched_calls.specs.declared.state.ChannelState.{ChannelState}
use Rattle.sched_history.specs.ChannelState.{state_of}
use Rattle.segment_line.specs.declared.segment.Segment.{Segment}
use Rattle.segment_line.specs.SegmentLine.{IsSegmentLine}
use Rattle.state_command.specs.declared.form.StateEnd.{StateEnd}
use Rattle.state_command.specs.declared.form.StateEnd.TheVariants as ends
use Rattle.state_command.specs.declared.form.StateForm.{StateForm}
use Rattle.state_command.specs.declared.form.StateForm.TheVariants.{Line, Table}

-- the exit status of the program
abbrev pub status_of : StateEnd → ℕ
status_of (ends.Written torn) = 0
status_of ends.Illegal = 1
status_of (ends.Bad line) = 3
status_of ends.Segment = 3

-- the segment that could follow a first one, where this is the state after that
abbrev pub following : Config → ChannelState → Segment
following c s = record { config = c; number = 2; state = s }

-- a text shows a state: it is the first line of that segment; of a table nothing is said
abbrev pub ShowsState : StateForm → Config → ChannelState → List ℕ → Type 0
ShowsState Line c s text = IsSegmentLine (following c s) text
ShowsState Table c s text = Unit {0}

-- A state was shown, and nothing else was written
pub record Shows (form : StateForm) (c : Config) (s : ChannelState) (before after : Option (List ℕ)) : Type 0 where
  pub text : List ℕ
  pub shows : ShowsState form c s text
  pub written : Appends before after text

-- the state after these entries was shown, and nothing else was written
abbrev pub ShowsAfter : StateForm → Config → List Entry → Option (List ℕ) → Option (List ℕ) → Type 0
ShowsAfter form c es before after = Shows form c (state_of c es) before after
