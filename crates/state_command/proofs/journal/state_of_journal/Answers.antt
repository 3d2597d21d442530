-- What was found in the journal that was opened is shown.
use Rattle.std.proofs.Common.{List, ℕ, Option, Result, Ok, Err, IfOk}
use Rattle.std.proofs.lemmas.Result.{err_from_is_err_and}
use Rattle.text_stream.specs.declared.run_fault.RunFault.{RunFault}
use Rattle.journal_entries.specs.declared.judging.Judged.{Judged}
use Rattle.journal_entries.specs.Judging.{Finds}
use Rattle.state_command.specs.Journal.{StatesJournal}
use Rattle.state_command.specs.declared.form.StateEnd.{StateEnd}
use Rattle.state_command.specs.declared.form.StateForm.{StateForm}
use Rattle.state_command.proofs.Faults.{stops_command, no_write}
use Rattle.state_command.proofs.journal.state_of_journal.Goals as goal

-- what was written of the entries was written of the journal in which they were found
of_journal : (form : StateForm) (unread left before after : Option (List ℕ)) (judged : Judged)
    (r : Result StateEnd RunFault)
    → IfOk r (λ end. (unread left : Option (List ℕ)) → Finds unread left judged
    → StatesJournal form unread left before after end)
    → Finds unread left judged → IfOk r (StatesJournal form unread left before after)
of_journal form unread left before after judged (Ok end) told found = told unread left found
of_journal form unread left before after judged (Err fault) told found = tt

pub returns-in_err-judged-clause-stops : goal.returns-in_err-judged-clause-stops
returns-in_err-judged-clause-stops g c =
    let opened = rw c.in-Ok-Some.field-0-is at c.in-Ok-Some.ensures.opened in
    let p = err_from_is_err_and c.from_residual.result c.from_residual.ensures.1 in
    rw (p.1, p.2) (stops_command (g.R.Source.remaining c.args.reader.now)
    (g.R.Source.remaining c.judge_entries.new.reader) _
    (c.in_err-judged.ensures.stops (g.R.Source.remaining c.args.reader.now) opened.stand))

pub returns-in_err-judged-clause-failed_write : goal.returns-in_err-judged-clause-failed_write
returns-in_err-judged-clause-failed_write g c =
    let opened = rw c.in-Ok-Some.field-0-is at c.in-Ok-Some.ensures.opened in
    let p = err_from_is_err_and c.from_residual.result c.from_residual.ensures.1 in
    rw (p.1, p.2) (λ is. absurd (no_write (g.R.Source.remaining c.args.reader.now)
    (g.R.Source.remaining c.judge_entries.new.reader) _
    (c.in_err-judged.ensures.stops (g.R.Source.remaining c.args.reader.now) opened.stand) is))

pub returns-clause-ok : goal.returns-clause-ok
returns-clause-ok g c =
    let opened = rw c.in-Ok-Some.field-0-is at c.in-Ok-Some.ensures.opened in
    of_journal c.args.form (g.R.Source.remaining c.args.reader.now) (g.R.Source.remaining c.judge_entries.new.reader)
    _ _ c.in_ok-judged.judged c.put_judged.result c.put_judged.ensures.ok
    (c.in_ok-judged.ensures.finds (g.R.Source.remaining c.args.reader.now) opened.stand)
