-- Wider steps.
use Rattle.report_picture.proofs.Kept.{widened}
use Rattle.report_picture.proofs.over_time.UseOverTime.widen.Goals as goal

pub returns : goal.returns
returns c = λ k fs is.
    widened k c.args.self.now c.join.new.row c.join-2.new.row c.join-3.new.row fs is c.if-self.false
    c.join.ensures.long c.join.ensures.each c.join-2.ensures.long c.join-2.ensures.each c.join-3.ensures.long
    c.join-3.ensures.each
