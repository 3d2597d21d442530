-- The mark behind the step, or none.
use Rattle.report_picture.proofs.Told.{last-marked, last-rest}
use Rattle.report_picture.proofs.over_time.UseOverTime.last.Goals as goal

pub returns-then-self-i : goal.returns-then-self-i
returns-then-self-i c = λ k fs is. last-marked k c.args.self.now fs is c.args.i _ c.if-self-i.true

pub returns-else-self-i : goal.returns-else-self-i
returns-else-self-i c = λ k fs is. last-rest k c.args.self.now fs is c.args.i 0 c.if-self-i.false
