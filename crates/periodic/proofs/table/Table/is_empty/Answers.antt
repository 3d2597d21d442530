-- The flows are counted.
use Rattle.std.proofs.Common.{ap, ◌∙◌, length, rules}
use Rattle.periodic.specs.Table.{TableView}
use Rattle.periodic.proofs.table.Table.is_empty.Goals as goal

pub returns : goal.returns
returns c =
    let long = c.self.invariant.long ∙ ap (λ (t : TableView). length t.placed) c.self.view_is in
    rw (← long) (search rules)
