-- How a conversation with a journal in a file ends early, and the exit status of the program where it does.
use Rattle.std.specs.Prelude.{ℕ, Option, None, Some}
use Rattle.live_command.specs.declared.fault.LiveFault.TheVariants.{Text, Journal, OtherConfig, BadJournal}
use Rattle.journal_file.specs.declared.end.Cause.{Cause}
use Rattle.journal_file.specs.declared.end.Cause.TheVariants.{Fault, Failed, Changed}
use Rattle.journal_file.specs.declared.end.Stop.{Stop}
use Rattle.journal_file.specs.declared.end.Stop.TheVariants as stops
use Rattle.journal_file.specs.declared.fault.FileFault.TheVariants as file
use Rattle.journal_file.specs.declared.fault.JournalFault.{JournalFault}
use Rattle.journal_file.specs.declared.fault.JournalFault.TheVariants.{File, Live}
use Rattle.journal_file.specs.Fault.{journal_status_of}

-- where a journal has failed, the cause is what its store says of its last call that failed; another fault is its own
abbrev pub cause_of : JournalFault → Option Stop → Cause
cause_of fault None = Fault fault
cause_of (File file.Failed) (Some (stops.Failed call)) = Failed call
cause_of (File file.Failed) (Some (stops.Changed change)) = Fault (File file.Failed)
cause_of (File file.InUse) (Some stop) = Fault (File file.InUse)
cause_of (File (file.Bad n)) (Some stop) = Fault (File (file.Bad n))
cause_of (File file.Memory) (Some stop) = Fault (File file.Memory)
cause_of (Live (Text why)) (Some stop) = Fault (Live (Text why))
cause_of (Live Journal) (Some (stops.Failed call)) = Failed call
cause_of (Live Journal) (Some (stops.Changed change)) = Changed change
cause_of (Live (OtherConfig other)) (Some stop) = Fault (Live (OtherConfig other))
cause_of (Live (BadJournal n)) (Some stop) = Fault (Live (BadJournal n))

-- 4 for a call that failed, and for a file that another program has changed
abbrev pub cause_status_of : Cause → ℕ
cause_status_of (Fault fault) = journal_status_of fault
cause_status_of (Failed call) = 4
cause_status_of (Changed change) = 4
