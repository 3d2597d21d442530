-- Where the report is not written whole, memory ran out, or a write failed behind a whole history.
use Rattle.std.proofs.Common.{◌≡◌, ◌⊎◌, Bool, true, inl, inr, sym, ap, ◌∙◌, List, ℕ, Option, Result, Ok, Err}
use Rattle.std.specs.Prelude.{◌≢◌}
use Rattle.std.specs.Result.{IsErrAnd}
use Rattle.text_stream.specs.Watched.{FailsBy}
use Rattle.text_stream.specs.RunFault.{WritesLast}
use Rattle.text_stream.specs.declared.run_fault.RunFault.{RunFault}
use Rattle.std.proofs.lemmas.Result.{err_from_is_err_and}
use Rattle.text_stream.specs.declared.fault.TextFault.{TextFault}
use Rattle.text_stream.specs.declared.fault.TextFault.TheVariants.{Input, Memory, Output}
use Rattle.text_stream.specs.declared.run_fault.RunFault.TheVariants.{Text}
use Rattle.history_reading.specs.Recorded.{History, GivesHistory}
use Rattle.report_command.specs.Report.{StopsReport}
use Rattle.report_command.proofs.history.run_report.Goals as goal

-- a report on a whole history stops where memory runs out, or a write fails
stops_writing : (unread left : Option (List ℕ)) (fault : TextFault) (history : History)
    → GivesHistory unread left (Ok history) → (fault ≡ Memory) ⊎ (fault ≡ Output) → StopsReport unread left (Text fault)
stops_writing unread left fault history gives (inl e) = rw e tt
stops_writing unread left fault history gives (inr e) = rw e (history, gives)

-- a write is tried last
quiet : {T W : Type 0} (r : Result T RunFault) (t : TextFault) (old new : W) → (t ≢ Output → new ≡ old)
    → IsErrAnd r (λ f. f ≡ Text t) → WritesLast r old new
quiet (Ok x) t old new still is = tt
quiet (Err f) t old new still is = λ other. still (λ output. other (is ∙ ap (λ u. Text u) output))

-- what the report's text ends by is no failed read
reads : {T : Type 0} (r : Result T RunFault) (t : TextFault) (old new : Bool) → (t ≡ Memory) ⊎ (t ≡ Output)
    → IsErrAnd r (λ f. f ≡ Text t) → FailsBy (Text Input) r old new
reads (Ok x) t old new fault is = absurd is
reads (Err f) t old new (inl memory) is = λ input.
    absurd (let no : Text Memory ≡ Text Input = sym (is ∙ ap (λ u. Text u) memory) ∙ input in cc)
reads (Err f) t old new (inr output) is = λ input.
    absurd (let no : Text Output ≡ Text Input = sym (is ∙ ap (λ u. Text u) output) ∙ input in cc)

same-text : (t u : TextFault) → Text t ≡ Text u → t ≡ u
same-text t u is = cc

-- and a failed write where one failed
writes : {T : Type 0} (r : Result T RunFault) (t : TextFault) (old new : Bool) → (t ≡ Output → new ≡ true)
    → IsErrAnd r (λ f. f ≡ Text t) → FailsBy (Text Output) r old new
writes (Ok x) t old new failed is = absurd is
writes (Err f) t old new failed is = λ output. failed (same-text t Output (sym is ∙ output))

pub returns-in_err-put_report-clause-quiet : goal.returns-in_err-put_report-clause-quiet
returns-in_err-put_report-clause-quiet g c =
    quiet c.from_residual-in_err-put_report.result c.in_err-put_report.field-0.0 c.args.writer.now
    c.put_report.new.writer c.in_err-put_report.ensures.quiet c.from_residual-in_err-put_report.ensures.1

pub returns-in_err-put_report-clause-failed_read : goal.returns-in_err-put_report-clause-failed_read
returns-in_err-put_report-clause-failed_read g c =
    reads c.from_residual-in_err-put_report.result c.in_err-put_report.field-0.0
    (g.R.Source.has_failed c.args.reader.now) (g.R.Source.has_failed c.read_history.new.reader)
    c.in_err-put_report.ensures.err c.from_residual-in_err-put_report.ensures.1

pub returns-in_err-put_report-clause-failed_write : goal.returns-in_err-put_report-clause-failed_write
returns-in_err-put_report-clause-failed_write g c =
    writes c.from_residual-in_err-put_report.result c.in_err-put_report.field-0.0
    (g.W.Sink.has_failed c.args.writer.now) (g.W.Sink.has_failed c.put_report.new.writer)
    c.in_err-put_report.ensures.failed c.from_residual-in_err-put_report.ensures.1

pub returns-in_err-put_report-clause-stops : goal.returns-in_err-put_report-clause-stops
returns-in_err-put_report-clause-stops g c =
    let p =
    err_from_is_err_and c.from_residual-in_err-put_report.result c.from_residual-in_err-put_report.ensures.1 in
    rw (p.1, p.2) (stops_writing (g.R.Source.remaining c.args.reader.now)
    (g.R.Source.remaining c.read_history.new.reader) _ _ c.in_ok-config.ensures.ok c.in_err-put_report.ensures.err)
