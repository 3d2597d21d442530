-- Open idles that are not told are left out.
use Rattle.report_writing.specs.Report.{use_data}
use Rattle.report_writing.proofs.members.put_use.Goals as goal

pub returns-clause-ok : goal.returns-clause-ok
unfolding use_data
returns-clause-ok c = rw c.told_if.ensures at c.put_object.ensures.ok
