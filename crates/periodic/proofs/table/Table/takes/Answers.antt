-- The rows and the counts tell of the placed flows.
use Rattle.periodic.specs.Groups.{placed_in}
use Rattle.periodic.proofs.table.Table.takes.Goals as goal

pub returns-clause-lawful : goal.returns-clause-lawful
returns-clause-lawful c =
    let inside = c.self.inside in
    rw (← c.self.view_is) (c.is_lawful.ensures.lawful (placed_in inside.groups.items) c.self.invariant.sound
    (rw c.deref.ensures.value c.self.invariant.told) c.self.invariant.counted)

pub returns-clause-unlawful : goal.returns-clause-unlawful
returns-clause-unlawful c =
    let inside = c.self.inside in
    rw (← c.self.view_is) (c.is_lawful.ensures.unlawful (placed_in inside.groups.items) c.self.invariant.sound
    (rw c.deref.ensures.value c.self.invariant.told) c.self.invariant.counted)
