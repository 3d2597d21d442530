-- A line that is blank, or none.
use Rattle.std.proofs.Common.{◌∙◌}
use Rattle.std.proofs.lemmas.Result.{err_from_is_err_and}
use Rattle.live_command.proofs.OpeningLines.{PassesBlanks-push, PassesBlanks-stops}
use Rattle.live_command.proofs.Failing.{no_line_told}
use Rattle.live_command.proofs.opening.next_spoken.Goals as goal

pub returns-in_err-told-clause-stops : goal.returns-in_err-told-clause-stops
returns-in_err-told-clause-stops g c =
    let p = err_from_is_err_and c.from_residual.result c.from_residual.ensures.1 in
    rw (p.1, p.2) (PassesBlanks-stops _ _ _ c.loop.invariant.passes c.args.reads_on _ _ c.in_err-told.ensures.stops)

pub returns-in_err-told-clause-failed : goal.returns-in_err-told-clause-failed
returns-in_err-told-clause-failed g c =
    let p = err_from_is_err_and c.from_residual.result c.from_residual.ensures.1 in
    rw (p.1, p.2) (no_line_told c.args.reads_on _ _ _ _ _ c.in_err-told.ensures.stops c.in_err-told.ensures.failed)

pub loop-preserved : goal.loop-preserved
loop-preserved g c =
    let next = rw c.in-Some.is at c.in_ok-told.ensures.told in
    record {
      passes = PassesBlanks-push _ _ _ c.loop.invariant.passes _ _ c.in-Some.told c.is_told_spoken.result next
          (c.is_told_spoken.ensures next.line (rw c.line.ensures next.is)) c.if-is_told_spoken.false;
      unfailed = c.in_ok-told.ensures.failed ∙ c.loop.invariant.unfailed;
    }
