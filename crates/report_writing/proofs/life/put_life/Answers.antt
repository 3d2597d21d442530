-- What is not told of a life is left out.
use Rattle.report_writing.specs.Report.{life_data}
use Rattle.report_writing.proofs.life.put_life.Goals as goal

pub returns-clause-ok : goal.returns-clause-ok
unfolding life_data
returns-clause-ok c =
    rw (
      c.told_above_0.ensures,
      c.spread_of.ensures,
      c.kind_name.ensures,
      c.priority_of.ensures,
      c.told_if.ensures,
      c.under_of.ensures,
    ) at c.put_object.ensures.ok
