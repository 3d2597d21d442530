-- The flow stood among those of its group.
use Rattle.std.proofs.Common.{◌<◌, length, subst, sym}
use Rattle.periodic.specs.declared.group.Group.{Group}
use Rattle.periodic.proofs.Among.{flow-out}
use Rattle.periodic.proofs.Filled.{all-others, remove-set}
use Rattle.periodic.proofs.group.lift_out.Goals as goal

pub returns-clause-taken : goal.returns-clause-taken
returns-clause-taken c =
    let stands = rw c.deref.ensures.value at c.in_ok-index.ensures.found in
    flow-out c.args.groups.now.items c.in_ok-index.index c.index_mut.result.now _ stands.group
    c.index_mut.ensures.value c.remove-flow.result c.in_ok-index.place
    (subst (λ (g : Group). c.in_ok-index.place < length g.flows.items) (sym c.index_mut.ensures.value)
    (stands.within c.index_mut.result.now))
    c.remove-flow.ensures.value c.remove-flow.ensures.items

pub returns-clause-filled : goal.returns-clause-filled
returns-clause-filled c = λ filled.
    let groups = c.args.groups.now.items in
    rw (remove-set groups c.in_ok-index.index _) (all-others _ groups c.in_ok-index.index filled)
