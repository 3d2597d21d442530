-- The live flows after a MAP.
use Rattle.std.proofs.Common.{◌≡◌, ℕ, ◌+◌, List, [], ◌∷◌, ◌++◌, refl, sym, ap, ◌∙◌, arith}
use Rattle.std.specs.List.{AllByRecursion}
use Rattle.minislots.specs.declared.config.Config.{Config}
use Rattle.minislots.specs.declared.stamp.Stamp.{Stamp}
use Rattle.flow_book.specs.Flows.{LiveFlow, charges_of}
use Rattle.flow_book.specs.declared.flow.Grant.{Grant}
use Rattle.sched_calls.specs.declared.frame_map.FrameMap.{FrameMap}
use Rattle.sched_calls.specs.declared.opportunity.Header.{Header}
use Rattle.map_build.specs.declared.purpose.Allocation.{Allocation}
use Rattle.map_build.specs.Plan.{Demand, grants_to, with_grants, flow_after, flows_after}
use Rattle.map_build.proofs.FlowsAfter.{with_grants-is}
use Rattle.map_build.specs.FrameMap.{map_of}
use Rattle.sched_calls.specs.declared.call.Call.TheVariants as calls
use Rattle.sched_calls.specs.declared.reply.Reply.TheVariants as replies
use Rattle.sched_calls.specs.declared.reply.Entry.{Entry}
use Rattle.sched_history.specs.Life.{grants_of_map, flows_of}
use Rattle.sched_history.specs.Time.{next_after}
use Rattle.sched_history.specs.Reserves.{header_after}
use Rattle.sched_history.specs.History.{demand_after, IsNextMap}
use Rattle.sched_history.proofs.lives.FlowsAfter.{grown_by, flows_of-grown}
use Rattle.sched_history.proofs.flows.FlowCalls.{map-each}
use Rattle.sched_history.proofs.flows.MapGrants.{HasBytes, plan-HasBytes, grants_of_map-plan}

granted_flow : (c : Config) (f : LiveFlow) (grants more : List Grant) → grants ≡ more
    → record f {
      asked = f.asked + 0;
      grants = f.grants ++ grants;
      sustained = f.sustained ++ charges_of grants;
      peak = f.peak ++ charges_of grants;
      reserved = (with_grants c grants f).reserved;
    } ≡ with_grants c more f
granted_flow c f grants more same =
    let none : f.asked + 0 ≡ f.asked = omega arith in
    rw (none, same) (sym (with_grants-is c more f))

module _ (stamp : Stamp) (h : List Entry) (now : ℕ) (m : FrameMap) where
  -- each live flow has the data grants that the MAP has for it
  pub flows_of-build : (c : Config) (start : ℕ) (plan : List Allocation)
      → ((sid : ℕ) → grants_of_map sid m ≡ grants_to start sid plan)
      → flows_of c (h ++ record { stamp = stamp; call = calls.Build now; reply = replies.Built m } ∷ [])
      ≡ flows_after c start plan (flows_of c h)
  flows_of-build c start plan reads =
      let e : Entry = record { stamp = stamp; call = calls.Build now; reply = replies.Built m } in
      flows_of-grown c h e (λ sid. refl) ∙ map-each (grown_by c e) (flow_after c start plan) (flows_of c h)
      (λ f. granted_flow c f (grants_of_map f.sid m) (grants_to start f.sid plan) (reads f.sid))

  -- so too for the MAP of a plan in which each data grant has some bytes
  pub flows_of-build_plan : (c : Config) (d : Demand) (header : Header) (ack : ℕ) (plan : List Allocation)
      → AllByRecursion (λ a. HasBytes a.purpose) plan → m ≡ map_of c d header ack plan
      → flows_of c (h ++ record { stamp = stamp; call = calls.Build now; reply = replies.Built m } ∷ [])
      ≡ flows_after c d.start plan (flows_of c h)
  flows_of-build_plan c d header ack plan has is =
      flows_of-build c d.start plan (λ sid. ap (grants_of_map sid) is ∙ grants_of_map-plan sid c d header ack plan has)

  -- so too for the MAP of the next frame
  pub flows_of-build_next : (c : Config) (next : IsNextMap c h m)
      → flows_of c (h ++ record { stamp = stamp; call = calls.Build now; reply = replies.Built m } ∷ [])
      ≡ flows_after c (next_after c h) next.0 (flows_of c h)
  flows_of-build_next c next =
      flows_of-build_plan c (demand_after c h) (header_after c h) _ next.0
      (plan-HasBytes c (demand_after c h) next.0 next.1) next.2
