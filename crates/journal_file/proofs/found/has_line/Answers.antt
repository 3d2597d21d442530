-- A read failed, or there is no end of a line.
use Rattle.journal_file.proofs.Finding.{stops_line}
use Rattle.journal_file.proofs.found.has_line.Goals as goal

pub returns-clause-stops : goal.returns-clause-stops
returns-clause-stops g c =
    stops_line _ _ c.next_whole.new.reader.has_failed g.S.Store.may_misread c.in-Err.field-0
    (rw (c.in-Ok.ensures, c.new-2.ensures) at c.in-Err.ensures.stops) c.in-Err.ensures.failed
