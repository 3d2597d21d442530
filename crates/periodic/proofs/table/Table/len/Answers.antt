-- The flows are counted.
use Rattle.std.proofs.Common.{ap, ◌∙◌, length}
use Rattle.periodic.specs.Table.{TableView}
use Rattle.periodic.proofs.table.Table.len.Goals as goal

pub returns-clause-value : goal.returns-clause-value
returns-clause-value c = c.self.invariant.long ∙ ap (λ (t : TableView). length t.placed) c.self.view_is
