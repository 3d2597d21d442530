-- The front of the MAP of a plan: its elements ascend strictly, up to the one Null at the end of the frame.
use Rattle.std.proofs.Common.{◌≡◌, ℕ, ◌<◌, ◌≤◌, ◌^◌, Bool, true, false, map, filter, length}
use Rattle.std.proofs.Common.{List, [], ◌∷◌, ◌++◌, refl, sym, ap, ◌∙◌, subst}
use Rattle.std.proofs.Common.{append_assoc, length-append, arith}
use Rattle.std.specs.List.{AllByRecursion}
use Rattle.std.proofs.lemmas.List.{append-nil, length-map}
use Rattle.std.proofs.lemmas.List.Sums.{sum_by_push}
use Rattle.minislots.specs.declared.config.Config.{Config}
use Rattle.map_codec.specs.declared.element.Element.{Element}
use Rattle.flow_book.specs.Flows.{LiveFlow}
use Rattle.flow_book.specs.Shown.{is_shown}
use Rattle.map_build.specs.declared.purpose.Allocation.{Allocation}
use Rattle.map_build.specs.EachAfter.{EachAfter}
use Rattle.map_build.specs.Opportunities.{HaveElementSids}
use Rattle.map_build.specs.Purpose.{element_of, bytes_in}
use Rattle.map_build.specs.Plan.{Demand, end_of, flows_after, Stands, IsPlan}
use Rattle.map_build.specs.FrameMap.{request_region, null_element, pending_of, pending, elements_of, bytes_of_plan}
use Rattle.map_build.proofs.Planned.{plan-within}
use Rattle.map_build.proofs.WellFormed.{HaveSids, HaveSpotSids, elements_of-encodable}
use Rattle.sched_history.specs.Facts.{OffsetsAscend, head_for, HasFront}
use Rattle.sched_history.proofs.settling.Heads.{is_quiet-head}

-- pending grants begin where the frame ends
past-frame : (c : Config) (flows : List LiveFlow)
    → AllByRecursion (λ e. e.offset ≡ c.frame) (map (pending_of c) flows)
past-frame c [] = tt
past-frame c (f ∷ flows) = (refl, past-frame c flows)

module _ (c : Config) (d : Demand) where
  -- the elements of the MAP of a plan behind its head
  abbrev rest : List Allocation → List Element
  rest plan = map (element_of c) plan ++ null_element c ∷ pending c (flows_after c d.start plan d.flows)

  -- behind an element that begins before it, a plan's elements ascend up to the Null
  ascend-plan : (e : Element) (before plan : List Allocation) → EachAfter (Stands c d) before plan
      → e.offset < end_of c before → end_of c (before ++ plan) ≡ c.frame
      → OffsetsAscend (e ∷ (map (element_of c) plan ++ null_element c ∷ []))
  ascend-plan e before [] each below whole = (
    let ends : end_of c before ≡ c.frame = rw append-nil at whole in omega
        (arith, below, ends),
    tt,
  )
  ascend-plan e before (a ∷ plan) each below whole = (
    omega (arith, below, each.0.follows),
    ascend-plan (element_of c a) (before ++ a ∷ []) plan each.1
        (omega (
          arith,
          each.0.follows,
          each.0.some_slots,
          sum_by_push (λ (a : Allocation). a.slots) before a,
        )) (rw append_assoc whole),
  )

  ascend-head : (settles : Bool) → d.settles ≡ settles → (plan : List Allocation) → 0 < c.req_slots
      → c.req_slots ≤ c.frame → IsPlan c d plan
      → OffsetsAscend (head_for c settles ∷ (map (element_of c) plan ++ null_element c ∷ []))
  ascend-head true is plan some long plans = rw (plans.quiet is) (omega (arith, some, long), tt)
  ascend-head false is plan some long plans =
      ascend-plan request_region [] plan plans.each (omega (arith, some)) (plans.whole is)

  -- the MAP of a plan has a front
  pub HasFront-plan : (plan : List Allocation) → c.frame < 2 ^ 14 → 0 < c.req_slots → c.req_slots ≤ c.frame
      → HaveSids d.flows → HaveSpotSids d.spots → HaveElementSids d.waiting
      → IsPlan c d plan → HasFront c (elements_of c d plan)
  HasFront-plan plan below some long sids places stations is = record {
    allocations = map (element_of c) plan;
    behind = pending c (flows_after c d.start plan d.flows);
    whole = ap (λ b. head_for c b ∷ rest plan) (sym (is_quiet-head c d.settles (rest plan)));
    alone = λ quiet. ap (map (element_of c)) (is.quiet (sym (is_quiet-head c d.settles (rest plan)) ∙ quiet));
    one_null = (elements_of-encodable c d plan below sids places stations is.each
        (plan-within c d plan long is)).one_null;
    ascend = subst (λ b. OffsetsAscend (head_for c b ∷ (map (element_of c) plan ++ null_element c ∷ [])))
        (sym (is_quiet-head c d.settles (rest plan))) (ascend-head d.settles refl plan some long is);
    past = past-frame c (filter (is_shown c.pending (flows_after c d.start plan d.flows))
        (flows_after c d.start plan d.flows));
  }

  -- it has a byte count for each element
  pub length-bytes_of_plan : (plan : List Allocation)
      → length (bytes_of_plan c d plan) ≡ length (elements_of c d plan)
  length-bytes_of_plan plan =
      let tail : List Element = pending c (flows_after c d.start plan d.flows) in
      omega (
        arith,
        length-append (map (bytes_in c) plan) (0 ∷ map (λ (e : Element). 0) tail),
        length-append (map (element_of c) plan) (null_element c ∷ tail),
        length-map {B = ℕ} plan (bytes_in c),
        length-map plan (element_of c),
        length-map {B = ℕ} tail (λ (e : Element). 0),
      )
