-- The flow stands among those of its group.
use Rattle.std.proofs.Common.{◌<◌, ◌∙◌, ap, sym, subst, length, get_or}
use Rattle.periodic.specs.declared.group.Group.{Group}
use Rattle.periodic.proofs.Among.{flow-among}
use Rattle.periodic.proofs.group.flow_of.Goals as goal

pub returns-clause-among : goal.returns-clause-among
returns-clause-among c =
    let stands = c.in_ok-index.ensures.found in
    let g = c.index-groups-index.result in
    flow-among c.args.groups.now c.in_ok-index.index g c.index.result.now c.in_ok-index.place stands.group
    c.index-groups-index.is
    (subst (λ (h : Group). c.in_ok-index.place < length h.flows.items) (sym c.index-groups-index.is) (stands.within g))
    (c.index.ensures
    ∙ ap (λ (h : Group). get_or h.flows.items c.in_ok-index.place c.index.result.now) (sym c.index-groups-index.is))
