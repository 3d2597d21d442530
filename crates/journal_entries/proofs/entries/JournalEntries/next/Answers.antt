-- A line that stands for an entry, one that stands for nothing, an entry that may not follow, and the end.
use Rattle.std.proofs.Common.{◌+◌, length, ap, sym, subst, ◌∙◌, refl}
use Rattle.sched_history.specs.Machine.{Past}
use Rattle.text_stream.specs.Told.{untold}
use Rattle.journal_entries.specs.Journal.{FindsNoEntryIn, StandSoFar}
use Rattle.journal_entries.proofs.Lines.{FindsLegal-torn, FindsNoEntry-long, StandSoFar-entry, FindsIllegal-entry}
use Rattle.journal_entries.proofs.Lines.{FindsNoEntry-none, StopsJournal-taking, StopsJournal-line}
use Rattle.journal_entries.proofs.entries.JournalEntries.next.Goals as goal

pub returns-in-Ok-Long-clause-gives : goal.returns-in-Ok-Long-clause-gives
returns-in-Ok-Long-clause-gives g c = λ before so_far.
    let told = (rw c.in-Ok-Long.field-0-is at c.in-Ok-Long.ensures).whole in
    subst (λ n. FindsNoEntryIn before (g.R.Source.remaining c.next_whole.new.reader) c.args.self.now.auditor.config
    c.args.self.now.auditor.history (n + 1))
    (sym c.taken.ensures.value)
    (FindsNoEntry-long before _ _ c.next_whole.new.self c.args.self.now.auditor.config c.args.self.now.auditor refl
    so_far told)

pub returns-in-Ok-Torn-clause-gives : goal.returns-in-Ok-Torn-clause-gives
returns-in-Ok-Torn-clause-gives g c = λ before so_far.
    let torn = (rw c.in-Ok-Torn.field-0-is at c.in-Ok-Torn.ensures).whole in
    FindsLegal-torn before _ _ c.next_whole.new.self.bytes c.args.self.now.auditor.config
    c.args.self.now.auditor.history so_far c.in-Ok-Torn.bytes torn

pub returns-in-Err-clause-stops : goal.returns-in-Err-clause-stops
returns-in-Err-clause-stops g c = λ before so_far.
    StopsJournal-line before _ _ c.args.self.now.auditor.config c.args.self.now.auditor.history so_far
    c.in-Err.fault c.in-Err.ensures.stops

pub returns-in-Ok-Entry-clause-gives : goal.returns-in-Ok-Entry-clause-gives
returns-in-Ok-Entry-clause-gives g c = λ before so_far.
    let told = (rw c.in-Ok-Line.field-0-is at c.in-Ok-Line.ensures).whole in
    let takes = (rw c.in-Ok-Entry.field-0-is at c.in-Ok-Entry.ensures).takes in
    let config = ap (λ (p : Past). p.config) takes.taken in
    let left = untold c.next_whole.new.self (g.R.Source.remaining c.next_whole.new.reader) in
    subst (λ config. StandSoFar before left config c.take_line.new.auditor.history) (sym config)
    (StandSoFar-entry before _ _ c.next_whole.new.self c.args.self.now.auditor.config c.args.self.now.auditor refl
    so_far c.line.result.now told c.line.ensures c.take_line.new.auditor c.in-Ok-Entry.entry takes)

pub returns-in-Ok-Entry-clause-takes : goal.returns-in-Ok-Entry-clause-takes
returns-in-Ok-Entry-clause-takes g c =
    let takes = (rw c.in-Ok-Entry.field-0-is at c.in-Ok-Entry.ensures).takes in
    (takes.taken, takes.encodable)

pub returns-in-Ok-Illegal-clause-gives : goal.returns-in-Ok-Illegal-clause-gives
returns-in-Ok-Illegal-clause-gives g c = λ before so_far.
    let told = (rw c.in-Ok-Line.field-0-is at c.in-Ok-Line.ensures).whole in
    let meets = (rw c.in-Ok-Illegal.field-0-is at c.in-Ok-Illegal.ensures).takes in
    let taken = c.taken-in-Ok-Illegal.ensures in
    record {
      entry = meets.entry;
      found = FindsIllegal-entry before _ _ c.next_whole.new.self c.args.self.now.auditor.config c.args.self.now.auditor
          refl so_far c.line.result.now told c.line.ensures c.take_line.new.auditor c.taken-in-Ok-Illegal.result meets
          taken.value;
      behind = taken.value ∙ ap (λ (p : Past). length p.history) meets.same;
      most = taken.most;
    }

pub returns-clause-gives : goal.returns-clause-gives
returns-clause-gives g c = λ before so_far.
    let told = (rw c.in-Ok-Line.field-0-is at c.in-Ok-Line.ensures).whole in
    let none = (rw c.in-Ok-NoEntry.field-0-is at c.in-Ok-NoEntry.ensures).takes in
    FindsNoEntry-none before _ _ c.next_whole.new.self c.args.self.now.auditor.config c.args.self.now.auditor refl
    so_far c.line.result.now told c.line.ensures c.take_line.new.auditor
    c.taken-2.result none.0 none.1 c.taken-2.ensures.value

pub returns-in-Err-take_line-clause-stops : goal.returns-in-Err-take_line-clause-stops
returns-in-Err-take_line-clause-stops g c = λ before so_far.
    let told = (rw c.in-Ok-Line.field-0-is at c.in-Ok-Line.ensures).whole in
    StopsJournal-taking before _ _ c.next_whole.new.self c.args.self.now.auditor.config c.args.self.now.auditor refl
    so_far c.line.result.now told c.line.ensures c.in-Err-take_line.fault
    c.in-Err-take_line.ensures.stops
