-- What is known of the next frame of a legal history.
use Rattle.std.proofs.Common.{◌+◌, ◌/◌, ◌<◌, ◌≤◌, List, length, get_or, sym, subst, arith}
use Rattle.std.proofs.lemmas.List.Elements.{All-contains, All-from_recursion, Contains-get_or}
use Rattle.minislots.specs.declared.config.Config.{Config}
use Rattle.minislots.specs.Config.{IsLawful}
use Rattle.minislots.proofs.Bounds.{bounds_of}
use Rattle.map_codec.specs.declared.element.Element.{Element}
use Rattle.map_codec.specs.Element.{IsInRange, no_element}
use Rattle.map_drawing.specs.Allocation.{front_length}
use Rattle.map_drawing.proofs.Fronts.{front_length-<}
use Rattle.sched_calls.specs.declared.frame_map.FrameMap.{FrameMap}
use Rattle.map_build.specs.FrameMap.{elements_of}
use Rattle.map_build.proofs.Planned.{plan-within}
use Rattle.map_build.proofs.WellFormed.{AreEncodable, elements_of-encodable}
use Rattle.sched_calls.specs.declared.reply.Entry.{Entry}
use Rattle.sched_history.specs.Time.{next_after}
use Rattle.sched_history.specs.Refusal.{last_clock, most_ahead}
use Rattle.sched_history.specs.History.{demand_after, IsLegal, IsNextMap}
use Rattle.sched_history.proofs.facts.Orderly.{flows_of-in_range, due_in-in_range}
use Rattle.sched_history.proofs.reserves.GoodReserves.{HaveElementSids-legal}
use Rattle.sched_history.proofs.steps.LegalBounds.{next_after-most}
use Rattle.sched_history.proofs.time.NextFrames.{next_start}
use Rattle.sched_report.specs.Uses.{AreOfFrame}

-- elements that can be encoded are those of a frame
of_frame : (es : List Element) → AreEncodable es → AreOfFrame es
of_frame es are =
    let below : front_length es < length es = front_length-< es are.one_null in
    record {
      one_null = are.one_null;
      ascends = are.ascends;
      short = (All-contains IsInRange es (get_or es (front_length es) no_element)
          (All-from_recursion IsInRange es are.in_range)
          (Contains-get_or es (front_length es) no_element below)).offset;
    }

module _ (c : Config) (lawful : IsLawful c) (h : List Entry) where
  -- the next MAP has the elements of a frame
  pub of_next_frame : (m : FrameMap) → IsLegal c h → IsNextMap c h m → AreOfFrame m.wire.elements
  of_next_frame m legal next =
      let frame = (bounds_of c lawful).frame_most in
      subst (λ (n : FrameMap). AreOfFrame n.wire.elements) (sym next.2)
      (of_frame (elements_of c (demand_after c h) next.0)
      (elements_of-encodable c (demand_after c h) next.0 (omega (arith, frame)) (flows_of-in_range c h)
      (due_in-in_range c (next_after c h / c.frame) h) (HaveElementSids-legal c h legal) next.1.each
      (plan-within c (demand_after c h) next.0 (omega (arith, (bounds_of c lawful).requests_fit)) next.1)))

  -- and starts in reach of the clock
  pub next_start-most : (m : FrameMap) → IsLegal c h → IsNextMap c h m → m.start ≤ last_clock + most_ahead
  next_start-most m legal next = omega (arith, next_start c h m next, next_after-most c lawful h legal)
