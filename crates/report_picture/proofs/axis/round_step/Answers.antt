-- The next round number.
use Rattle.std.proofs.Common.{◌∙◌, sym}
use Rattle.report_picture.specs.declared.axis.TheConstants.{ROUND}
use Rattle.report_picture.proofs.Enough.{first_enough-here, first_enough-later}
use Rattle.report_picture.proofs.axis.round_step.Goals as goal

pub returns-then-full-step-clause-value : goal.returns-then-full-step-clause-value
returns-then-full-step-clause-value c =
    sym (c.loop-i.invariant
    ∙ first_enough-here c.args.full ROUND c.loop-i.i c.from-step.result c.loop-i-test.true c.from-step.ensures
    c.if-full-step.true)

pub loop-i-preserved : goal.loop-i-preserved
loop-i-preserved c =
    c.loop-i.invariant
    ∙ first_enough-later c.args.full ROUND c.loop-i.i c.from-step.result c.loop-i-test.true c.from-step.ensures
    c.if-full-step.false
