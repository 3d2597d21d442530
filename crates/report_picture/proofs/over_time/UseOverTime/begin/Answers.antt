-- The start of a step, where one begins.
use Rattle.report_picture.proofs.Added.{begun-at, begun-between}
use Rattle.report_picture.proofs.over_time.UseOverTime.begin.Goals as goal

pub returns-then-self-eq0 : goal.returns-then-self-eq0
returns-then-self-eq0 c = λ k fs is. begun-at k c.args.self.now fs c.args.start is c.if-self-eq0.true

pub returns-else-self-eq0 : goal.returns-else-self-eq0
returns-else-self-eq0 c = λ k fs is. begun-between k c.args.self.now fs c.args.start is c.if-self-eq0.false
