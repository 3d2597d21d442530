-- A line that stands for an entry, one that stands for none, and the end.
use Rattle.std.proofs.Common.{sym, ◌∙◌}
use Rattle.journal_entries.proofs.Lines.{FindsLegal-torn, StopsJournal-line}
use Rattle.journal_entries.proofs.Reading.{FindsNoEntry-read_long, StandWith-read, FindsNoEntry-read}
use Rattle.journal_entries.proofs.unjudged.UnjudgedEntries.next.Goals as goal

pub returns-in-Ok-Long-clause-reads : goal.returns-in-Ok-Long-clause-reads
returns-in-Ok-Long-clause-reads g c = λ before k es so_far.
    let told = (rw c.in-Ok-Long.field-0-is at c.in-Ok-Long.ensures).whole in
    FindsNoEntry-read_long before _ _ c.next_whole.new.self k es so_far told

pub returns-in-Ok-Torn-clause-reads : goal.returns-in-Ok-Torn-clause-reads
returns-in-Ok-Torn-clause-reads g c = λ before k es so_far.
    let torn = (rw c.in-Ok-Torn.field-0-is at c.in-Ok-Torn.ensures).whole in
    FindsLegal-torn before _ _ c.next_whole.new.self.bytes k es so_far c.in-Ok-Torn.bytes torn

pub returns-in-Err-clause-stops : goal.returns-in-Err-clause-stops
returns-in-Err-clause-stops g c = λ before k es so_far.
    StopsJournal-line before _ _ k es so_far c.in-Err.fault c.in-Err.ensures.stops

pub returns-in-Ok-Some-clause-reads : goal.returns-in-Ok-Some-clause-reads
returns-in-Ok-Some-clause-reads g c = λ before k es so_far.
    let told = (rw c.in-Ok-Line.field-0-is at c.in-Ok-Line.ensures).whole in
    StandWith-read before _ _ c.next_whole.new.self k es so_far c.line.result.now told c.line.ensures
    c.in-Ok-Some.entry (sym c.in-Ok-Some.field-0-is ∙ c.in-Ok-Some.ensures.value)

pub returns-in-Ok-None-clause-reads : goal.returns-in-Ok-None-clause-reads
returns-in-Ok-None-clause-reads g c = λ before k es so_far.
    let told = (rw c.in-Ok-Line.field-0-is at c.in-Ok-Line.ensures).whole in
    FindsNoEntry-read before _ _ c.next_whole.new.self k es so_far c.line.result.now told c.line.ensures
    (sym c.in-Ok-None.field-0-is ∙ c.in-Ok-None.ensures.value)
