-- Those that are not told are left out.
use Rattle.report_writing.specs.Report.{calls_data}
use Rattle.report_writing.proofs.members.put_calls.Goals as goal

pub returns-clause-ok : goal.returns-clause-ok
unfolding calls_data
returns-clause-ok c =
    rw (
      c.told_above_0.ensures,
      c.told_above_0-2.ensures,
      c.told_above_0-3.ensures,
      c.told_above_0-4.ensures,
    ) at c.put_object.ensures.ok
