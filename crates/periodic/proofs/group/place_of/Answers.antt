-- The flow's group and its place there, or none has the SID.
use Rattle.std.proofs.Common.{◌∙◌, sym}
use Rattle.periodic.proofs.Grouped.{all-more, none-passes, flow-stands}
use Rattle.periodic.proofs.group.place_of.Goals as goal

pub returns-in-Some-clause-found : goal.returns-in-Some-clause-found
returns-in-Some-clause-found c =
    flow-stands c.args.groups.now c.loop-index.index c.index-groups-index.result c.args.sid c.in-Some.place
    c.loop-index-test.true c.index-groups-index.is (sym c.place_of.ensures ∙ c.in-Some.is)

pub loop-index-preserved : goal.loop-index-preserved
loop-index-preserved c =
    all-more _ c.args.groups.now c.loop-index.index c.index-groups-index.result
    c.loop-index-test.true c.index-groups-index.is c.loop-index.invariant
    (none-passes _ c.index-groups-index.result.flows.items (sym c.place_of.ensures ∙ c.in_default.is))
