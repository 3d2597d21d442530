-- Why a capture stops.
use Rattle.std.proofs.Common.{◌≡◌, ℕ, List, Option}
use Rattle.text_stream.specs.declared.fault.TextFault.{TextFault}
use Rattle.text_stream.specs.declared.fault.TextFault.TheVariants.{Input, TooLong, NotJson, Shape, Config, Memory}
use Rattle.text_stream.specs.declared.fault.TextFault.TheVariants.{Output}
use Rattle.text_stream.specs.declared.run_fault.RunFault.TheVariants.{Text}
use Rattle.journal_entries.specs.End.{StopsCommand}
use Rattle.pcap_command.specs.Journal.{StopsEntries}
use Rattle.pcap_command.proofs.journal.capture_journal.Goals as goal

-- what stops the entries stops the command
stops_command : (unread left : Option (List ℕ)) (fault : TextFault) → StopsEntries unread left fault
    → StopsCommand unread left (Text fault)
stops_command unread left Input stops = stops
stops_command unread left TooLong stops = stops
stops_command unread left NotJson stops = absurd stops
stops_command unread left (Shape n) stops = absurd stops
stops_command unread left (Config field) stops = absurd stops
stops_command unread left Memory stops = tt
stops_command unread left Output stops = tt

-- the fault of the command is that of the entries
text_output : (fault : TextFault) → Text fault ≡ Text Output → fault ≡ Output
text_output fault is = cc

pub returns-in-Ok-clause-failed_write : goal.returns-in-Ok-clause-failed_write
returns-in-Ok-clause-failed_write g c =
    c.in-Ok.ensures.failed_write (g.R.Source.remaining c.args.reader.now)
    (rw c.in-Ok-Some.field-0-is at c.in-Ok-Some.ensures.opened).stand

pub returns-in-Err-capture_entries-clause-stops : goal.returns-in-Err-capture_entries-clause-stops
returns-in-Err-capture_entries-clause-stops g c =
    stops_command (g.R.Source.remaining c.args.reader.now) (g.R.Source.remaining c.capture_entries.new.reader)
    c.in-Err-capture_entries.fault
    (c.in-Err-capture_entries.ensures.stops (g.R.Source.remaining c.args.reader.now)
    (rw c.in-Ok-Some.field-0-is at c.in-Ok-Some.ensures.opened).stand)

pub returns-in-Err-capture_entries-clause-failed_write : goal.returns-in-Err-capture_entries-clause-failed_write
returns-in-Err-capture_entries-clause-failed_write g c = λ is.
    c.in-Err-capture_entries.ensures.failed_write (g.R.Source.remaining c.args.reader.now)
    (rw c.in-Ok-Some.field-0-is at c.in-Ok-Some.ensures.opened).stand
    (text_output c.in-Err-capture_entries.fault is)
