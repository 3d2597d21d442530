-- One line more, or none.
use Rattle.std.proofs.Common.{◌∙◌, arith, inr}
use Rattle.check_lines.proofs.Openings.{StopsLines-line}
use Rattle.check_lines.proofs.Talks.{HearsSoFar-push, HearsSoFar-many, few_heard}
use Rattle.check_lines.proofs.live.hear_lines.Goals as goal

pub take_line-requires-clause-calls_fit : goal.take_line-requires-clause-calls_fit
take_line-requires-clause-calls_fit g c =
    omega (arith, few_heard _ _ _ _ _ c.loop-before.invariant.so_far, c.loop-before-test.true)

pub take_line-requires-clause-bad_fits : goal.take_line-requires-clause-bad_fits
take_line-requires-clause-bad_fits g c =
    omega (arith, few_heard _ _ _ _ _ c.loop-before.invariant.so_far, c.loop-before-test.true)

pub returns-in-Err-clause-stops : goal.returns-in-Err-clause-stops
returns-in-Err-clause-stops g c =
    let so_far = c.loop-before.invariant.so_far in
    StopsLines-line _ _ _ _ so_far.lines c.in-Err.fault so_far.read c.in-Err.ensures.stops

pub loop-before-preserved : goal.loop-before-preserved
loop-before-preserved g c =
    let next = (rw c.in-Ok-Some.field-0-is at c.in-Ok-Some.ensures).told in
    record {
      so_far = HearsSoFar-push _ _ _ _ _ c.loop-before.invariant.so_far _ _ c.in-Ok-Some.told _ next
          (c.in_ok-take_line-in-Ok-Some.ensures.ok next.line next.is);
      unfailed = c.in-Ok-Some.ensures.failed ∙ c.loop-before.invariant.unfailed;
    }

pub returns-clause-stops : goal.returns-clause-stops
returns-clause-stops g c =
    inr (HearsSoFar-many _ _ _ _ _ c.loop-before.invariant.so_far (omega (arith, c.loop-before-test.false)))
