-- The first line is the configuration, or none; or no line is whole.
use Rattle.journal_entries.proofs.Lines.{opened-line, HasOtherOpening-long, HasNoLine-torn, StopsJournal-opening}
use Rattle.journal_entries.proofs.entries.read_opening.Goals as goal

pub returns-in-Ok-clause-opened : goal.returns-in-Ok-clause-opened
returns-in-Ok-clause-opened g c =
    let told = (rw c.in-Ok-Line.field-0-is at c.in-Ok-Line.ensures).whole in
    opened-line _ _ c.next_whole.new.self c.line.result.now c.in-Ok.config told c.line.ensures c.in-Ok.ensures

pub returns-in-Ok-Long-clause-opened : goal.returns-in-Ok-Long-clause-opened
returns-in-Ok-Long-clause-opened g c =
    HasOtherOpening-long _ _ c.next_whole.new.self (rw c.in-Ok-Long.field-0-is at c.in-Ok-Long.ensures).whole

pub returns-in-Ok-Torn-clause-opened : goal.returns-in-Ok-Torn-clause-opened
returns-in-Ok-Torn-clause-opened g c =
    HasNoLine-torn _ _ _ _ (rw c.in-Ok-Torn.field-0-is at c.in-Ok-Torn.ensures).whole

pub returns-in-Err-clause-stops : goal.returns-in-Err-clause-stops
returns-in-Err-clause-stops g c = StopsJournal-opening _ _ c.in-Err.fault c.in-Err.ensures.stops
