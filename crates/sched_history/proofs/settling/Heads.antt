-- What stands at the head of a MAP: the request region, or where it settles its idle.
use Rattle.std.proofs.Common.{◌≡◌, Bool, true, false, List, ◌∷◌, ◌++◌, map, refl, ap, ◌∙◌}
use Rattle.minislots.specs.declared.config.Config.{Config}
use Rattle.map_codec.specs.declared.element.Element.{Element}
use Rattle.sched_calls.specs.declared.frame_map.FrameMap.{FrameMap}
use Rattle.map_build.specs.Purpose.{element_of}
use Rattle.map_build.specs.Plan.{Demand, flows_after}
use Rattle.map_build.specs.FrameMap.{null_element, pending}
use Rattle.sched_calls.specs.declared.reply.Entry.{Entry}
use Rattle.sched_history.specs.Settling.{is_quiet, settles_after}
use Rattle.sched_history.specs.Refusal.{bad_sid}
use Rattle.sched_history.specs.History.{demand_after, IsNextMap}
use Rattle.sched_history.specs.Facts.{head_for}

-- a MAP settles where its idle is at its head
pub is_quiet-head : (c : Config) (settles : Bool) (es : List Element) → is_quiet (head_for c settles ∷ es) ≡ settles
is_quiet-head c true es = refl
is_quiet-head c false es = refl

-- neither is to a flow
pub head-unaddressed : (c : Config) (settles : Bool) → bad_sid (head_for c settles).sid ≡ true
head-unaddressed c true = refl
head-unaddressed c false = refl

-- the MAP of the next frame settles exactly where it is to
pub is_quiet-next : (c : Config) (h : List Entry) (m : FrameMap) → IsNextMap c h m
    → is_quiet m.wire.elements ≡ settles_after c h
is_quiet-next c h m next =
    let d : Demand = demand_after c h in
    ap (λ (n : FrameMap). is_quiet n.wire.elements) next.2
    ∙ is_quiet-head c d.settles
    (map (element_of c) next.0 ++ null_element c ∷ pending c (flows_after c d.start next.0 d.flows))
