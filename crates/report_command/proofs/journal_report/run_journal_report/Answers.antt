-- Memory or a write that fails stops the command.
use Rattle.std.proofs.Common.{Bool, true, ◌≡◌, ◌≢◌, ◌⊎◌, inl, inr, sym, ap, ◌∙◌, subst, ℕ, List, Option, Result, Ok, Err}
use Rattle.std.specs.Result.{IfErr, IsErrAnd}
use Rattle.text_stream.specs.declared.fault.TextFault.{TextFault}
use Rattle.text_stream.specs.declared.fault.TextFault.TheVariants.{Input, Memory, Output}
use Rattle.text_stream.specs.declared.run_fault.RunFault.{RunFault}
use Rattle.text_stream.specs.declared.run_fault.RunFault.TheVariants.{Text}
use Rattle.text_stream.specs.RunFault.{WritesLast}
use Rattle.text_stream.specs.Watched.{FailsBy}
use Rattle.journal_entries.specs.End.{StopsCommand}
use Rattle.report_command.proofs.journal_report.run_journal_report.Goals as goal

stops : {T : Type 0} (before left : Option (List ℕ)) (r : Result T RunFault) (t : TextFault)
    → (t ≡ Memory) ⊎ (t ≡ Output) → IsErrAnd r (λ f. f ≡ Text t) → IfErr r (StopsCommand before left)
stops before left (Ok x) t fault is = tt
stops before left (Err f) t (inl memory) is =
    subst (StopsCommand before left) (sym (is ∙ ap (λ u. Text u) memory)) tt
stops before left (Err f) t (inr output) is =
    subst (StopsCommand before left) (sym (is ∙ ap (λ u. Text u) output)) tt

-- such a fault is none of reading
reads : {T : Type 0} (r : Result T RunFault) (t : TextFault) (old new : Bool) → (t ≡ Memory) ⊎ (t ≡ Output)
    → IsErrAnd r (λ f. f ≡ Text t) → FailsBy (Text Input) r old new
reads (Ok x) t old new fault is = absurd is
reads (Err f) t old new (inl memory) is = λ input.
    absurd (let no : Text Memory ≡ Text Input = sym (is ∙ ap (λ u. Text u) memory) ∙ input in cc)
reads (Err f) t old new (inr output) is = λ input.
    absurd (let no : Text Output ≡ Text Input = sym (is ∙ ap (λ u. Text u) output) ∙ input in cc)

pub returns-in_err-put_report-clause-failed_read : goal.returns-in_err-put_report-clause-failed_read
returns-in_err-put_report-clause-failed_read g c =
    reads c.from_residual-in_err-put_report.result c.in_err-put_report.field-0.0
    (g.R.Source.has_failed c.args.reader.now) (g.R.Source.has_failed c.show_journal.new.reader)
    c.in_err-put_report.ensures.err c.from_residual-in_err-put_report.ensures.1

pub returns-in_err-put_report-clause-stops : goal.returns-in_err-put_report-clause-stops
returns-in_err-put_report-clause-stops g c =
    stops (g.R.Source.remaining c.args.reader.now) (g.R.Source.remaining c.show_journal.new.reader)
    c.from_residual-in_err-put_report.result c.in_err-put_report.field-0.0 c.in_err-put_report.ensures.err
    c.from_residual-in_err-put_report.ensures.1

-- where it is none of writing, nothing was written
quiet : {T W : Type 0} (r : Result T RunFault) (t : TextFault) (old new : W) → (t ≢ Output → new ≡ old)
    → IsErrAnd r (λ f. f ≡ Text t) → WritesLast r old new
quiet (Ok x) t old new kept is = tt
quiet (Err f) t old new kept is = λ other. kept (λ output. other (is ∙ ap (λ u. Text u) output))

-- and where it is one, a write has failed
writes : {T : Type 0} (r : Result T RunFault) (t : TextFault) (old new : Bool) → (t ≡ Output → new ≡ true)
    → IsErrAnd r (λ f. f ≡ Text t) → FailsBy (Text Output) r old new
writes (Ok x) t old new failed is = absurd is
writes (Err f) t old new failed is = λ output. failed (of_text t (sym is ∙ output))
  where
    of_text : (u : TextFault) → Text u ≡ Text Output → u ≡ Output
    of_text u same = cc

pub returns-in_err-put_report-clause-quiet : goal.returns-in_err-put_report-clause-quiet
returns-in_err-put_report-clause-quiet g c =
    quiet c.from_residual-in_err-put_report.result c.in_err-put_report.field-0.0 c.args.writer.now
    c.put_report.new.writer c.in_err-put_report.ensures.quiet c.from_residual-in_err-put_report.ensures.1

pub returns-in_err-put_report-clause-failed_write : goal.returns-in_err-put_report-clause-failed_write
returns-in_err-put_report-clause-failed_write g c =
    writes c.from_residual-in_err-put_report.result c.in_err-put_report.field-0.0
    (g.W.Sink.has_failed c.args.writer.now) (g.W.Sink.has_failed c.put_report.new.writer)
    c.in_err-put_report.ensures.failed c.from_residual-in_err-put_report.ensures.1
