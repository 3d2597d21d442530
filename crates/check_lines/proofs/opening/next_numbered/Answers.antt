-- A line that is blank, or none.
use Rattle.std.proofs.Common.{◌∙◌}
use Rattle.check_lines.proofs.Openings.{Passes-push, TellsNumbered-told, Passes-stops}
use Rattle.check_lines.proofs.opening.next_numbered.Goals as goal

pub returns-then-is_told_spoken-clause-finds : goal.returns-then-is_told_spoken-clause-finds
returns-then-is_told_spoken-clause-finds g c =
    let next = (rw c.in-Ok-Some.field-0-is at c.in-Ok-Some.ensures).told in
    TellsNumbered-told _ _ _ c.loop-before.invariant.passes _ _ c.in-Ok-Some.told c.is_told_spoken.result next
    (c.is_told_spoken.ensures next.line (rw c.line.ensures next.is)) c.if-is_told_spoken.true

pub returns-in-Err-clause-stops : goal.returns-in-Err-clause-stops
returns-in-Err-clause-stops g c =
    Passes-stops _ _ _ c.loop-before.invariant.passes _ c.in-Err.fault c.in-Err.ensures.stops

pub loop-before-preserved : goal.loop-before-preserved
loop-before-preserved g c =
    let next = (rw c.in-Ok-Some.field-0-is at c.in-Ok-Some.ensures).told in
    record {
      passes = Passes-push _ _ _ c.loop-before.invariant.passes _ _ c.in-Ok-Some.told c.is_told_spoken.result next
          (c.is_told_spoken.ensures next.line (rw c.line.ensures next.is)) c.if-is_told_spoken.false;
      unfailed = c.in-Ok-Some.ensures.failed ∙ c.loop-before.invariant.unfailed;
    }
