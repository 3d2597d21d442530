-- The MAP of a draft that is filled and ended is lawful, and a lawful MAP is well formed.
use Rattle.std.proofs.Common.{◌≡◌, ℕ, ◌<◌, ◌≤◌, Bool, true, false, List, [], ◌∷◌, map, filter, length, Contains}
use Rattle.std.proofs.Common.{refl, sym, ap, subst, ◌∙◌, arith}
use Rattle.std.specs.List.{AllByRecursion}
use Rattle.std.proofs.lemmas.List.{length-append, length-map}
use Rattle.std.proofs.lemmas.List.Sums.{length-filter}
use Rattle.minislots.specs.declared.config.Config.{Config}
use Rattle.minislots.specs.Bursts.{HasBursts}
use Rattle.minislots.specs.Config.{IsLawful, HasBounds}
use Rattle.minislots.proofs.Bounds.{bounds_of}
use Rattle.map_codec.specs.WireMap.{IsWellFormed, FitsHeader}
use Rattle.flow_book.specs.Flows.{LiveFlow}
use Rattle.flow_book.specs.Book.{Ascend}
use Rattle.flow_book.specs.Shown.{is_shown, ack_of}
use Rattle.flow_book.proofs.InLine.{AreSmall, few-shown}
use Rattle.periodic.specs.declared.placement.Spot.{Spot}
use Rattle.map_build.specs.declared.draft.Draft.{Draft}
use Rattle.map_build.specs.declared.frame.PlannedFrame.{PlannedFrame}
use Rattle.sched_calls.specs.declared.frame_map.FrameMap.{FrameMap}
use Rattle.sched_calls.specs.declared.opportunity.Header.{Header}
use Rattle.sched_calls.specs.declared.opportunity.Opportunity.{Opportunity}
use Rattle.map_build.specs.declared.purpose.Allocation.{Allocation}
use Rattle.map_build.specs.Purpose.{element_of, allocation_of}
use Rattle.map_build.specs.Opportunities.{HaveElementSids}
use Rattle.map_build.specs.Plan.{Demand, demand_at, end_of, grants_to, flow_after, flows_after, IsPlan}
use Rattle.map_build.specs.FrameMap.{null_element, pending_of, pending, elements_of, bytes_of_plan, map_with}
use Rattle.map_build.specs.FrameMap.{AreMet, IsLawfulMap, IsLawfulFrame}
use Rattle.map_build.specs.Spots.{IsInFrame, AreInFrame, IsFlowSid, HaveFlowSids, AreOfChannel}
use Rattle.map_build.specs.Draft.{Ends}
use Rattle.map_build.specs.Walk.{IsFilled, HasPlan, AreTaken}
use Rattle.map_build.proofs.Counts.{length-plan}
use Rattle.map_build.proofs.FlowsAfter.{flows_after-nil, with_grants-sid}
use Rattle.map_build.proofs.OneMap.{BeginApart}
use Rattle.map_build.proofs.Standings.{spot-within, spots-apart}
use Rattle.map_build.proofs.WellFormed.{AreEncodable, HaveSids, HaveSpotSids, elements_of-encodable}

-- at the end of the frame all spots are taken
all-taken : (c : Config) (spots : List Spot) (plan : List Allocation) (offset : ℕ) → offset ≡ c.frame →
    AllByRecursion (IsInFrame c) spots →
    AreTaken spots plan offset → AllByRecursion (λ s. Contains plan (allocation_of s)) spots
all-taken c [] plan offset end each taken = tt
all-taken c (s ∷ spots) plan offset end each taken =
    (taken.0 (omega (arith, each.0.some_slots, each.0.within)), all-taken c spots plan offset end each.1 taken.1)

module _ (c : Config) (d : Demand) (sends : d.settles ≡ false) (plan : List Allocation) (filled ended : Draft)
    (are : AreInFrame c d.spots) (has : HasPlan c d plan filled) (full : filled.offset ≡ c.frame)
    (ends : Ends filled ended) where
  plan-is : IsPlan c d plan
  plan-is = record {
    each = has.each;
    whole = λ _. omega (arith, full, has.after.ends, ap (λ k. end_of k plan) has.config);
    due = λ _. all-taken c d.spots plan filled.offset full are.each has.taken;
    quiet = λ on. absurd (cc);
  }

  flows-are : filled.overlay.flows ≡ flows_after c d.start plan d.flows
  flows-are = has.after.flows_now ∙ ap (λ k. flows_after k filled.start plan d.flows) has.config
      ∙ ap (λ s. flows_after c s plan d.flows) has.starts

  elements-are : ended.elements.items ≡ elements_of c d plan
  elements-are = ends.elements ∙ rw (has.config, flows-are, has.elements, sends) refl

  bytes-are : ended.bytes.items ≡ bytes_of_plan c d plan
  bytes-are = ends.bytes_of ∙ rw (has.config, flows-are, has.bytes_of) refl

  -- the MAP of the draft is the lawful one, its book has the data grants, and its marks are those of the plan
  lawful-frame : (header : Header) (progress ack : ℕ) (p : PlannedFrame) →
      ack ≡ ack_of filled.overlay.config.pending progress filled.overlay.flows →
      p.map ≡ map_with ended.overlay.config header ended.start ack ended.elements.items ended.bytes.items →
      p.overlay ≡ ended.overlay → p.met ≡ ended.met → IsLawfulFrame c d header progress p
  lawful-frame header progress ack p held made book marks = record {
    plan = plan;
    is_plan = plan-is;
    map = made ∙ rw (held, elements-are, bytes-are, ends.overlay, ends.start, flows-are, has.config, has.starts) refl;
    before = ap (λ b. b.before) book ∙ ap (λ b. b.before) ends.overlay ∙ has.before;
    flows = ap (λ b. b.flows) book ∙ ap (λ b. b.flows) ends.overlay ∙ flows-are;
    met = subst (AreMet plan) (sym (marks ∙ ends.met)) has.after.met;
  }

-- a draft with the plan of nothing has the flows
pub begun-flows : (c : Config) (d : Demand) (draft : Draft) → HasPlan c d [] draft → draft.overlay.flows ≡ d.flows
begun-flows c d draft has = has.after.flows_now ∙ flows_after-nil draft.overlay.config draft.start d.flows

-- so it has the plan of nothing for its own
pub begun-here : (c : Config) (d : Demand) (draft : Draft) → d.settles ≡ false → HasPlan c d [] draft →
    HasPlan draft.overlay.config (demand_at draft.overlay.flows d.spots d.waiting draft.start) [] draft
begun-here c d draft sends has =
    subst (λ s. HasPlan draft.overlay.config (demand_at draft.overlay.flows d.spots d.waiting s) [] draft)
    (sym has.starts)
    (subst (λ fs. HasPlan draft.overlay.config (demand_at fs d.spots d.waiting d.start) [] draft)
    (sym (begun-flows c d draft has))
    (subst (λ b. HasPlan draft.overlay.config (record d { settles = b }) [] draft) sends
    (subst (λ k. HasPlan k d [] draft) (sym has.config) has)))

-- a frame that is filled ends where the frame does
pub filled-full : (spots : List Spot) (waiting : List Opportunity) (begun filled : Draft) →
    IsFilled spots waiting begun filled → filled.offset ≡ filled.overlay.config.frame
filled-full spots waiting begun filled is = is.2 ∙ ap (λ k. k.frame) (sym is.1.config)

-- a draft that is begun, filled and ended has the lawful MAP, its data grants and its marks
pub planned : (c : Config) (d : Demand) (header : Header) (progress ack : ℕ) (begun filled ended : Draft)
    (p : PlannedFrame) → d.settles ≡ false →
    AreInFrame c d.spots → HasPlan c d [] begun → IsFilled d.spots d.waiting begun filled → Ends filled ended →
    ack ≡ ack_of filled.overlay.config.pending progress filled.overlay.flows →
    p.map ≡ map_with ended.overlay.config header ended.start ack ended.elements.items ended.bytes.items →
    p.overlay ≡ ended.overlay → p.met ≡ ended.met → IsLawfulFrame c d header progress p
planned c d header progress ack begun filled ended p sends are has (plan, filling, full) ends held made book marks =
    lawful-frame c d sends plan filled ended are
    (subst (λ b. HasPlan c (record d { settles = b }) plan filled) (sym sends)
    (rw (has.config, begun-flows c d begun has, has.starts) at filling)) (full ∙ ap (λ k. k.frame) has.config) ends
    header progress ack p held made book marks

-- the MAP of a lawful frame is lawful
pub lawful-from_frame : (c : Config) (d : Demand) (header : Header) (ack : ℕ) (p : PlannedFrame) →
    IsLawfulFrame c d header ack p → IsLawfulMap c d header ack p.map
lawful-from_frame c d header ack p is = (is.plan, is.is_plan, is.map)

-- spots that do not overlap are apart
pub apart-in-frame : (c : Config) (spots : List Spot) → AreInFrame c spots → BeginApart spots
apart-in-frame c spots are = λ s t has has' begins.
    spots-apart c spots are s t has has' (omega (arith, begins))
    (omega (arith, begins, (spot-within c spots s are has).some_slots))

sids-short : (flows : List LiveFlow) → AllByRecursion (λ f. IsFlowSid f.sid) flows → HaveSids flows
sids-short [] all = tt
sids-short (f ∷ flows) all = (omega (arith, all.0.1), sids-short flows all.1)

spot-sids-short : (spots : List Spot) → HaveFlowSids spots → HaveSpotSids spots
spot-sids-short [] all = tt
spot-sids-short (s ∷ spots) all = (omega (arith, all.0.1), spot-sids-short spots all.1)

-- with data grants more the flows ascend, and their SIDs are short
module _ (c : Config) (start : ℕ) (plan : List Allocation) where
  same-sid : (f : LiveFlow) → (flow_after c start plan f).sid ≡ f.sid
  same-sid f = with_grants-sid c (grants_to start f.sid plan) f

  above-after : (n : ℕ) (flows : List LiveFlow) → AllByRecursion (λ f. n < f.sid) flows →
      AllByRecursion (λ f. n < f.sid) (flows_after c start plan flows)
  above-after n [] all = tt
  above-after n (f ∷ flows) all = (rw (same-sid f) all.0, above-after n flows all.1)

  ascend-after : (flows : List LiveFlow) → Ascend flows → Ascend (flows_after c start plan flows)
  ascend-after [] ascend = tt
  ascend-after (f ∷ flows) ascend =
      (rw (same-sid f) (above-after f.sid flows ascend.0), ascend-after flows ascend.1)

  small-after : (flows : List LiveFlow) → AllByRecursion (λ f. IsFlowSid f.sid) flows →
      AreSmall (flows_after c start plan flows)
  small-after [] all = tt
  small-after (f ∷ flows) all = (rw (same-sid f) (omega (arith, all.0.1)), small-after flows all.1)

few-pending : (c : Config) (flows : List LiveFlow) → Ascend flows → AreSmall flows →
    length (pending c flows) ≤ c.pending
few-pending c flows ascend small =
    omega (
      arith,
      length-map (filter (is_shown c.pending flows) flows) (pending_of c),
      length-filter (is_shown c.pending flows) flows,
      few-shown c.pending flows ascend small,
    )

-- the elements of a lawful plan are few
pub few-elements : (c : Config) (d : Demand) (plan : List Allocation) → HasBursts c.bursts → c.pending ≤ 125 →
    length d.spots ≤ 40 → AreOfChannel d.flows → length d.waiting ≤ 16 → IsPlan c d plan →
    length (elements_of c d plan) ≤ 240
few-elements c d plan bursts pendings places channel few is = omega (
  arith,
  pendings,
  length-plan c d bursts plan few pendings is.each,
  length-append (map (element_of c) plan) (null_element c ∷ pending c (flows_after c d.start plan d.flows)),
  length-map plan (element_of c),
  few-pending c (flows_after c d.start plan d.flows) (ascend-after c d.start plan d.flows channel.ascend)
      (small-after c d.start plan d.flows channel.sids),
)

plan-cond : (c : Config) (d : Demand) (plan : List Allocation) (quiet : Bool) → d.settles ≡ quiet →
    c.req_slots ≤ c.frame → IsPlan c d plan → end_of c plan ≤ c.frame
plan-cond c d plan true on fits is = rw (is.quiet on) (omega arith)
plan-cond c d plan false on fits is = omega (arith, is.whole on)

-- a plan is within the frame
pub plan-within : (c : Config) (d : Demand) (plan : List Allocation) → c.req_slots ≤ c.frame → IsPlan c d plan →
    end_of c plan ≤ c.frame
plan-within c d plan = plan-cond c d plan d.settles refl

-- a lawful MAP of flows of a channel is well formed
pub lawful-encodable : (c : Config) (d : Demand) (header : Header) (ack : ℕ) (m : FrameMap) → IsLawful c →
    AreInFrame c d.spots → length d.waiting ≤ 16 → IsLawfulMap c d header ack m → FitsHeader m.wire →
    AreOfChannel d.flows → HaveFlowSids d.spots → HaveElementSids d.waiting → IsWellFormed m.wire
lawful-encodable c d header ack m lawful are few (plan, is, made) fits channel places stations =
    let bounds : HasBounds c = bounds_of c lawful in
    let elements : m.wire.elements ≡ elements_of c d plan = ap (λ (n : FrameMap). n.wire.elements) made in
    let good : AreEncodable m.wire.elements = rw elements
    (elements_of-encodable c d plan (omega (arith, bounds.frame_most)) (sids-short d.flows channel.sids)
    (spot-sids-short d.spots places) stations is.each (plan-within c d plan (omega (arith, bounds.requests_fit)) is)) in
    record {
      fits = fits;
      count = rw elements (few-elements c d plan bounds.bursts bounds.pending_most are.few channel few is);
      in_range = good.in_range;
      one_null = good.one_null;
      ascends = good.ascends;
    }
