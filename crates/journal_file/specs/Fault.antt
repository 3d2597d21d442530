-- The exit status of the program where a conversation with a journal in a file ends.
use Rattle.std.specs.Prelude.{ℕ}
use Rattle.live_command.specs.Fault.{status_of}
use Rattle.journal_file.specs.declared.fault.FileFault.{FileFault}
use Rattle.journal_file.specs.declared.fault.FileFault.TheVariants.{Failed, InUse, Bad, Memory}
use Rattle.journal_file.specs.declared.fault.JournalFault.{JournalFault}
use Rattle.journal_file.specs.declared.fault.JournalFault.TheVariants.{File, Live}

-- 3 for a line that is wrong, 4 for a fault of the machine
abbrev pub file_status_of : FileFault → ℕ
file_status_of (Bad n) = 3
file_status_of Failed = 4
file_status_of InUse = 4
file_status_of Memory = 4

-- that of the file's fault, or of the conversation's
abbrev pub journal_status_of : JournalFault → ℕ
journal_status_of (File fault) = file_status_of fault
journal_status_of (Live fault) = status_of fault
