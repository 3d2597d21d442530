-- The flow stands behind those of its group, which then has one.
use Rattle.std.proofs.Common.{◌<◌, ap, [], ◌∷◌, length, arith}
use Rattle.std.proofs.lemmas.List.{length-append}
use Rattle.periodic.specs.declared.group.Group.{Group}
use Rattle.periodic.proofs.Among.{flow-put}
use Rattle.periodic.proofs.Filled.{all-placed}
use Rattle.periodic.proofs.group.put_in.Goals as goal

pub returns-clause-added : goal.returns-clause-added
returns-clause-added c =
    flow-put c.args.groups.now.items c.args.place c.index_mut.result.now _ c.requires.stands.within
    c.index_mut.ensures.value c.args.flow c.push_reserved.ensures.items

pub returns-clause-filled : goal.returns-clause-filled
returns-clause-filled c = λ others.
    all-placed (λ (g : Group). 0 < length g.flows.items) c.args.groups.now.items c.args.place _
    (omega (
      arith,
      ap length c.push_reserved.ensures.items,
      length-append c.index_mut.result.now.flows.items (c.args.flow ∷ []),
    ))
    others
