-- The MAP of a frame in which nobody sends.
use Rattle.std.proofs.Common.{◌≡◌, ℕ, true, List, [], refl, sym, ap, ◌∙◌, arith}
use Rattle.minislots.specs.declared.config.Config.{Config}
use Rattle.minislots.specs.Config.{IsLawful}
use Rattle.map_codec.specs.WireMap.{IsWellFormed, FitsHeader}
use Rattle.flow_book.specs.Flows.{LiveFlow}
use Rattle.flow_book.specs.Shown.{ack_of}
use Rattle.map_build.specs.declared.draft.Draft.{Draft}
use Rattle.map_build.specs.declared.frame.PlannedFrame.{PlannedFrame}
use Rattle.sched_calls.specs.declared.frame_map.FrameMap.{FrameMap}
use Rattle.sched_calls.specs.declared.opportunity.Header.{Header}
use Rattle.map_build.specs.Plan.{Demand, demand_at, settling, flows_after, IsPlan}
use Rattle.map_build.specs.FrameMap.{elements_of, bytes_of_plan, map_with, map_of, IsLawfulMap, IsLawfulFrame}
use Rattle.map_build.specs.Draft.{Ends}
use Rattle.map_build.specs.Begun.{IsQuiet}
use Rattle.map_build.specs.Spots.{AreOfChannel}
use Rattle.map_build.proofs.FlowsAfter.{flows_after-nil}
use Rattle.map_build.proofs.Planned.{lawful-encodable}

-- it has the plan of nothing
pub quiet-plan : (c : Config) (d : Demand) → d.settles ≡ true → IsPlan c d []
quiet-plan c d settles = record {
  each = tt;
  whole = λ sends. absurd (cc);
  due = λ sends. absurd (cc);
  quiet = λ _. refl;
}

-- so it is one
pub quiet-map : (c : Config) (d : Demand) (header : Header) (progress : ℕ) (m : FrameMap) → d.settles ≡ true →
    IsLawfulMap c d header progress m → m ≡ map_of c d header progress []
quiet-map c d header progress m settles (plan, is, made) =
    made ∙ ap (map_of c d header progress) (is.quiet settles)

module _ (c : Config) (d : Demand) (settles : d.settles ≡ true) (quiet ended : Draft)
    (is : IsQuiet c d.flows d.start quiet) (ends : Ends quiet ended) where
  none-granted : quiet.overlay.flows ≡ flows_after c d.start [] d.flows
  none-granted = is.flows_are ∙ sym (flows_after-nil c d.start d.flows)

  elements-are : ended.elements.items ≡ elements_of c d []
  elements-are = ends.elements ∙ rw (is.config, none-granted, is.elements, settles) refl

  bytes-are : ended.bytes.items ≡ bytes_of_plan c d []
  bytes-are = ends.bytes_of ∙ rw (is.config, none-granted, is.bytes_of) refl

  -- the MAP of a quiet draft that is ended is lawful
  pub quiet-frame : (header : Header) (progress ack : ℕ) (p : PlannedFrame) →
      ack ≡ ack_of quiet.overlay.config.pending progress quiet.overlay.flows →
      p.map ≡ map_with ended.overlay.config header ended.start ack ended.elements.items ended.bytes.items →
      p.overlay ≡ ended.overlay → p.met ≡ ended.met → IsLawfulFrame c d header progress p
  quiet-frame header progress ack p held made book marks = record {
    plan = [];
    is_plan = quiet-plan c d settles;
    map = made ∙ rw (held, elements-are, bytes-are, ends.overlay, ends.start, none-granted, is.config, is.starts) refl;
    before = ap (λ b. b.before) book ∙ ap (λ b. b.before) ends.overlay ∙ is.before;
    flows = ap (λ b. b.flows) book ∙ ap (λ b. b.flows) ends.overlay ∙ none-granted;
    met = record {
      each = λ place at. absurd (is.unmarked place (rw (marks, ends.met) at at));
      all = λ place (a, has, at). absurd (omega (arith, has.1));
    };
  }

-- such a MAP of flows of a channel is well formed
pub quiet-encodable : (c : Config) (flows : List LiveFlow) (start : ℕ) (header : Header) (progress : ℕ) (m : FrameMap) →
    IsLawful c → IsLawfulMap c (settling (demand_at flows [] [] start)) header progress m → FitsHeader m.wire →
    AreOfChannel flows → IsWellFormed m.wire
quiet-encodable c flows start header progress m lawful is fits channel =
    lawful-encodable c (settling (demand_at flows [] [] start)) header progress m lawful
    (record { few = omega arith; each = tt; in_turn = tt }) (omega arith) is fits channel tt tt
