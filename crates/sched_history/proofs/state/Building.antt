-- The MAP of the next frame, from what a scheduler keeps.
use Rattle.std.proofs.Common.{◌≡◌, ℕ, List, take, if◌then◌else◌, Bool, refl, sym, ap, ◌∙◌, subst}
use Rattle.flow_book.specs.Flows.{LiveFlow}
use Rattle.map_build.specs.declared.frame.PlannedFrame.{PlannedFrame}
use Rattle.sched_calls.specs.declared.frame_map.FrameMap.{FrameMap}
use Rattle.map_build.specs.Plan.{Demand, IsPlan, with_grants, flow_after, flows_after}
use Rattle.map_build.specs.FrameMap.{elements_of, IsLawfulMap, IsLawfulFrame}
use Rattle.sched_history.specs.declared.scheduler.state.State.{State}
use Rattle.sched_calls.specs.declared.call.Call.TheVariants.{Build}
use Rattle.sched_calls.specs.declared.reply.Reply.TheVariants.{Built}
use Rattle.sched_history.specs.Life.{grants_of_map}
use Rattle.sched_history.specs.Time.{least}
use Rattle.sched_history.specs.Reserves.{aged, unmarked, left_behind, reserves_past}
use Rattle.sched_history.specs.Situation.{Situation, flows_by, settles_in, spots_next}
use Rattle.sched_history.specs.History.{demand_in, IsNextMapIn}
use Rattle.sched_history.specs.State.{settles_next, next_demand, IsStateAfter, IsSoundIn}
use Rattle.sched_history.proofs.flows.MapGrants.{plan-HasBytes, grants_of_map-plan}
use Rattle.sched_history.proofs.flows.FlowCalls.{map-each}
use Rattle.sched_history.proofs.settling.SettlesNext.{settles_next-after}
use Rattle.sched_history.proofs.reserves.MetPlaces.{left_behind-marks}

module _ (s : State) (x : Situation) (is_after : IsStateAfter s x) where
  -- the acknowledge time is the least progress
  pub ack-after : least (take s.config.receivers s.progress) ≡ least x.progress
  ack-after = ap least is_after.progress

  -- what the next frame has to serve by the fields is what it has by what they stand for
  pub next_demand-after : next_demand s ≡ demand_in s.config x
  next_demand-after =
      let same : record (next_demand s) { settles = settles_in s.config x } ≡ demand_in s.config x =
      rw (is_after.flows, is_after.next, is_after.placed, is_after.reserves) refl in
      ap (λ b. record (next_demand s) { settles = b }) (settles_next-after s x is_after) ∙ same

  -- a lawful MAP of the fields is that of the next frame
  pub IsNextMap-after : (m : FrameMap)
      → IsLawfulMap s.config (next_demand s) s.header (least (take s.config.receivers s.progress)) m
      → IsNextMapIn s.config x m
  IsNextMap-after m lawful =
      subst (λ ack. IsLawfulMap s.config (demand_in s.config x) x.header ack m) ack-after
      (subst (λ header. IsLawfulMap s.config (demand_in s.config x) header
      (least (take s.config.receivers s.progress)) m) is_after.header
      (subst (λ d. IsLawfulMap s.config d s.header (least (take s.config.receivers s.progress)) m)
      next_demand-after lawful))

  -- and the other way round
  pub IsLawfulMap-after : (m : FrameMap) → IsNextMapIn s.config x m
      → IsLawfulMap s.config (next_demand s) s.header (least (take s.config.receivers s.progress)) m
  IsLawfulMap-after m next =
      subst (λ d. IsLawfulMap s.config d s.header (least (take s.config.receivers s.progress)) m)
      (sym next_demand-after)
      (subst (λ header. IsLawfulMap s.config (demand_in s.config x) header
      (least (take s.config.receivers s.progress)) m) (sym is_after.header)
      (subst (λ ack. IsLawfulMap s.config (demand_in s.config x) x.header ack m) (sym ack-after) next))

  module _ (p : PlannedFrame)
      (frame : IsLawfulFrame s.config (next_demand s) s.header (least (take s.config.receivers s.progress)) p) where
    -- and the flows with its data grants are those that its build leaves
    pub flows-planned : (clock : ℕ) → p.overlay.flows ≡ flows_by s.config (Build clock) (Built p.map) x.flows
    flows-planned clock =
        let has = plan-HasBytes s.config (next_demand s) frame.plan frame.is_plan in
        frame.flows ∙ ap (flows_after s.config s.next frame.plan) is_after.flows
        ∙ map-each (flow_after s.config s.next frame.plan) (λ f. with_grants s.config (grants_of_map f.sid p.map) f)
        x.flows (λ f. ap (λ grants. with_grants s.config grants f) (sym (ap (grants_of_map f.sid) frame.map
        ∙ grants_of_map-plan f.sid s.config (next_demand s) s.header (least (take s.config.receivers s.progress))
        frame.plan has)))

    -- and the Reserves that are left by its marks those that it leaves
    pub reserves-planned : IsSoundIn s.config x → left_behind (settles_in s.config x) p.met x.reserves
        ≡ reserves_past s.config (settles_in s.config x) (spots_next s.config x) p.map.wire.elements x.reserves
    reserves-planned sound =
        let plan : IsPlan s.config (demand_in s.config x) frame.plan =
        subst (λ d. IsPlan s.config d frame.plan) next_demand-after frame.is_plan in
        let elements : p.map.wire.elements ≡ elements_of s.config (demand_in s.config x) frame.plan =
        ap (λ (m : FrameMap). m.wire.elements) frame.map
        ∙ ap (λ (d : Demand). elements_of s.config d frame.plan) next_demand-after in
        left_behind-marks s.config x sound.waiting frame.plan plan p.met frame.met
        ∙ ap (λ es. reserves_past s.config (settles_in s.config x) (spots_next s.config x) es x.reserves) (sym elements)

  -- the Reserves that are kept after a MAP are those that it leaves
  pub reserves-behind : (met : List Bool) → (if settles_next s then s.reserves else aged (unmarked met s.reserves))
      ≡ left_behind (settles_in s.config x) met x.reserves
  reserves-behind met =
      ap (λ b. if b then s.reserves else aged (unmarked met s.reserves)) (settles_next-after s x is_after)
      ∙ ap (left_behind (settles_in s.config x) met) is_after.reserves
