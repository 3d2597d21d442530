-- Why a conversation ends, and the exit status of the program where it does.
use Rattle.std.specs.Prelude.{ℕ, List, codes, Option, None, Some}
use Rattle.text_stream.specs.declared.fault.TextFault.TheVariants as texts
use Rattle.text_stream.specs.declared.run_fault.RunFault.TheVariants as runs
use Rattle.text_stream.specs.RunFault.{exit_status_of}
use Rattle.live_command.specs.declared.fault.LiveFault.{LiveFault}
use Rattle.live_command.specs.declared.fault.LiveFault.TheVariants.{Text, Journal, OtherConfig, BadJournal}
use Rattle.live_command.specs.declared.journal.BeginFault.{BeginFault}
use Rattle.live_command.specs.declared.journal.BeginFault.TheVariants.{Memory, Other, Failed}

-- 3 for a fault of the input or of the journal's text, 4 for one of the machine
abbrev pub status_of : LiveFault → ℕ
status_of (Text fault) = exit_status_of (runs.Text fault)
status_of Journal = 4
status_of (OtherConfig difference) = 3
status_of (BadJournal line) = 3

-- what is said behind a fault: how an opening is written that is not JSON
abbrev pub hint_of : LiveFault → Option (List ℕ)
hint_of (Text texts.Input) = None
hint_of (Text texts.TooLong) = None
hint_of (Text texts.NotJson) = Some (codes "the configuration has to be in one line, which is the first")
hint_of (Text (texts.Shape n)) = None
hint_of (Text (texts.Config field)) = None
hint_of (Text texts.Memory) = None
hint_of (Text texts.Output) = None
hint_of Journal = None
hint_of (OtherConfig difference) = None
hint_of (BadJournal line) = None

-- why a conversation ends whose journal does not begin
abbrev pub fault_of_begin : BeginFault → LiveFault
fault_of_begin Memory = Text texts.Memory
fault_of_begin Other = BadJournal 0
fault_of_begin Failed = Journal
