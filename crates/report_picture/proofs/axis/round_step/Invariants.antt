-- Those so far are not enough.
use Rattle.std.proofs.Common.{◌≡◌, drop}
use Rattle.report_picture.specs.declared.axis.TheConstants.{ROUND}
use Rattle.report_picture.specs.Axis.{first_enough, round_step}
use Rattle.report_picture.proofs.axis.round_step.Given as goal

abbrev pub invariant-loop-i : goal.invariant-loop-i
invariant-loop-i l = round_step l.full ≡ first_enough l.full (drop l.i ROUND)
