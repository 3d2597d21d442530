-- What the data grants of the next frame's MAP leave of flows, by its plan.
use Rattle.std.proofs.Common.{◌≡◌, ap, ◌∙◌, List, map}
use Rattle.minislots.specs.declared.config.Config.{Config}
use Rattle.sched_calls.specs.declared.frame_map.FrameMap.{FrameMap}
use Rattle.flow_book.specs.Flows.{LiveFlow}
use Rattle.map_build.specs.Plan.{with_grants, flow_after, flows_after}
use Rattle.sched_history.specs.Life.{grants_of_map}
use Rattle.sched_history.specs.Time.{least}
use Rattle.sched_history.specs.Situation.{Situation}
use Rattle.sched_history.specs.History.{demand_in, IsNextMapIn}
use Rattle.sched_history.proofs.flows.FlowCalls.{map-each}
use Rattle.sched_history.proofs.flows.MapGrants.{plan-HasBytes, grants_of_map-plan}

-- they are the flows after the plan
pub granted-plan : (c : Config) (x : Situation) (m : FrameMap) (next : IsNextMapIn c x m) (flows : List LiveFlow)
    → map (λ f. with_grants c (grants_of_map f.sid m) f) flows ≡ flows_after c x.next next.0 flows
granted-plan c x m next flows =
    let has = plan-HasBytes c (demand_in c x) next.0 next.1 in
    map-each (λ f. with_grants c (grants_of_map f.sid m) f) (flow_after c x.next next.0) flows
    (λ f. ap (λ grants. with_grants c grants f) (ap (grants_of_map f.sid) next.2
    ∙ grants_of_map-plan f.sid c (demand_in c x) x.header (least x.progress) next.0 has))
