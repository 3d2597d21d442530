-- The lawful MAP for flows is the lawful one for flows that are alike.
use Rattle.std.proofs.Common.{◌≡◌, ap, ◌∙◌, ℕ, List, ◌∷◌, ◌++◌, map}
use Rattle.std.specs.Prelude.{filter}
use Rattle.minislots.specs.declared.config.Config.{Config}
use Rattle.map_codec.specs.declared.element.Element.{Element}
use Rattle.flow_book.specs.Flows.{LiveFlow}
use Rattle.flow_book.specs.Shown.{is_shown, ack_of}
use Rattle.sched_calls.specs.declared.frame_map.FrameMap.{FrameMap}
use Rattle.sched_calls.specs.declared.opportunity.Header.{Header}
use Rattle.map_build.specs.declared.purpose.Allocation.{Allocation}
use Rattle.map_build.specs.Purpose.{element_of, bytes_in}
use Rattle.map_build.specs.FrameMap.{head_of, null_element, pending_to, pending_of, pending, map_with, map_of}
use Rattle.map_build.specs.FrameMap.{IsLawfulMap}
use Rattle.map_build.specs.Plan.{Demand, flows_after}
use Rattle.restart_laws.proofs.Alike.{AlikeFlows}
use Rattle.restart_laws.proofs.flows.Fields.{sid-alike}
use Rattle.restart_laws.proofs.maps.Lists.{filter-alike, made-alike}
use Rattle.restart_laws.proofs.maps.Shown.{shown-alike, ack-alike}
use Rattle.restart_laws.proofs.maps.Choice.{AreAlikeAt}
use Rattle.restart_laws.proofs.maps.Plan.{IsPlanOfBoth, plan-alike}

-- flows that are alike have the same pending grants
pub pending-alike : (c : Config) (fs gs : List LiveFlow) → AlikeFlows c fs gs → pending c fs ≡ pending c gs
pending-alike c fs gs same =
    made-alike c (pending_of c) (pending_of c) (λ f g alike. ap (λ sid. pending_to c sid) (sid-alike c f g alike))
    (filter (is_shown c.pending fs) fs) (filter (is_shown c.pending gs) gs)
    (filter-alike c (is_shown c.pending fs) (is_shown c.pending gs) (shown-alike c c.pending fs gs same) fs gs same)

module _ (c : Config) (d : Demand) (gs : List LiveFlow) (header : Header) (progress : ℕ) where
  -- the MAP of a plan with this acknowledge time and these pending grants
  abbrev shape : List Allocation → ℕ → List Element → FrameMap
  shape plan ack shown = map_with c header d.start ack
      (head_of c d ∷ (map (element_of c) plan ++ null_element c ∷ shown))
      (0 ∷ (map (bytes_in c) plan ++ 0 ∷ map (λ e. 0) shown))

  -- the MAP of a plan that leaves them alike is one
  pub map_of-alike : (plan : List Allocation) → IsPlanOfBoth c d gs plan
      → map_of c d header progress plan ≡ map_of c (record d { flows = gs }) header progress plan
  map_of-alike plan both =
      let fs : List LiveFlow = flows_after c d.start plan d.flows in
      let hs : List LiveFlow = flows_after c d.start plan gs in
      ap (λ ack. shape plan ack (pending c fs)) (ack-alike c c.pending fs hs both.left.same progress)
      ∙ ap (λ shown. shape plan (ack_of c.pending progress hs) shown) (pending-alike c fs hs both.left.same)

  -- so is the lawful one
  pub lawful-alike : (m : FrameMap) → AreAlikeAt c d.start d.flows gs → IsLawfulMap c d header progress m
      → IsLawfulMap c (record d { flows = gs }) header progress m
  lawful-alike m are (plan, is, same) =
      let both = plan-alike c d gs plan are is in (plan, both.is_plan, same ∙ map_of-alike plan both)
