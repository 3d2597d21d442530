-- One frame more.
use Rattle.report_picture.proofs.Added.{added-at, added-between}
use Rattle.report_picture.proofs.over_time.UseOverTime.add.Goals as goal

pub returns-then-self-eq0 : goal.returns-then-self-eq0
returns-then-self-eq0 c = λ k fs f is total start.
    added-at k c.begin.new.self fs f c.args.total c.args.start (c.begin.ensures k fs (c.widen.ensures k fs is)) total
    start c.if-self-eq0.true

pub returns-else-self-eq0 : goal.returns-else-self-eq0
returns-else-self-eq0 c = λ k fs f is total start.
    added-between k c.begin.new.self fs f c.args.total c.args.start (c.begin.ensures k fs (c.widen.ensures k fs is))
    total start c.if-self-eq0.false
