-- The rows tell of the placed flows, and the bounds are such.
use Rattle.periodic.specs.Groups.{placed_in}
use Rattle.periodic.proofs.table.Table.chosen.Goals as goal

pub choose-requires-clause-bounded : goal.choose-requires-clause-bounded
choose-requires-clause-bounded c = rw c.deref.ensures.value c.self.invariant.bounded

pub invariant_of-self : goal.invariant_of-self
invariant_of-self c =
    let is = c.self.invariant in
    record {
      sound = is.sound;
      each = is.each;
      filled = is.filled;
      told = is.told;
      bounded = rw c.deref.ensures.value at c.choose.ensures.bounded;
      counted = is.counted;
      summed = is.summed;
      long = is.long;
    }

pub returns-clause-chosen : goal.returns-clause-chosen
returns-clause-chosen c =
    let inside = c.self.inside in
    rw (← c.self.view_is) (c.choose.ensures.chosen (placed_in inside.groups.items) c.self.invariant.sound
    (rw c.deref.ensures.value c.self.invariant.told) c.self.invariant.counted)

pub returns-clause-absent : goal.returns-clause-absent
returns-clause-absent c =
    let inside = c.self.inside in
    rw (← c.self.view_is) (c.choose.ensures.absent (placed_in inside.groups.items) c.self.invariant.sound
    (rw c.deref.ensures.value c.self.invariant.told) c.self.invariant.counted)
