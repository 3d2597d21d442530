-- What was found was written.
use Rattle.check_lines.proofs.Lives.{ChecksLive-written}
use Rattle.check_lines.proofs.check.check_live.Goals as goal

pub returns-clause-ok : goal.returns-clause-ok
returns-clause-ok g c =
    rw c.verdict.ensures (ChecksLive-written c.args.form c.in_ok-report.report _ _ _ _ c.in_ok-report.ensures.finds
    c.in_ok-put_live_as.ensures.ok)
