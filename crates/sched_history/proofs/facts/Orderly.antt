-- Every MAP of a legal history is orderly: at most 240 elements, and a front of disjoint ascending allocations.
use Rattle.std.proofs.Common.{ℕ, ◌/◌, ◌%◌, ◌<◌, ◌^◌, Bool, true, false, if◌then◌else◌, List}
use Rattle.std.proofs.Common.{[], ◌∷◌, ◌++◌, sym, ap, subst, arith}
use Rattle.std.specs.List.{AllByRecursion}
use Rattle.std.proofs.lemmas.List.Elements.{All-contains, All-from_recursion}
use Rattle.minislots.specs.declared.config.Config.{Config}
use Rattle.minislots.specs.Config.{IsLawful, HasBounds}
use Rattle.minislots.proofs.Bounds.{bounds_of}
use Rattle.flow_book.specs.Flows.{LiveFlow}
use Rattle.flow_book.proofs.Order.{all-push}
use Rattle.periodic.specs.declared.placement.Spot.{Spot}
use Rattle.periodic.specs.Placement.{Placed, spot_at, poll_at, due_starts, due_at, due_of, due_in}
use Rattle.periodic.proofs.Joined.{all-map}
use Rattle.sched_calls.specs.declared.frame_map.FrameMap.{FrameMap}
use Rattle.map_build.specs.Plan.{Demand}
use Rattle.map_build.proofs.Planned.{few-elements}
use Rattle.map_build.proofs.WellFormed.{HaveSids, HaveSpotSids}
use Rattle.sched_calls.specs.declared.reply.Entry.{Entry}
use Rattle.sched_history.specs.Life.{flows_of, table_of}
use Rattle.sched_history.specs.Time.{next_after}
use Rattle.sched_history.specs.History.{demand_after, IsNextMap, map_by, IsStep, IsLegal}
use Rattle.sched_history.specs.Facts.{maps_of, IsOrderly}
use Rattle.sched_history.proofs.steps.LegalHistories.{Builds, Skips, Stays, change_by_step, legal_induction}
use Rattle.sched_history.proofs.time.NextFrames.{maps_of-built, maps_of-unbuilt}
use Rattle.sched_history.proofs.lists.Numbered.{filter_map-below}
use Rattle.sched_history.proofs.lives.Finding.{sids-range, flow_at, flow_at-sid, placed_at, placed_at-sid, flows_of-channel}
use Rattle.map_build.proofs.SameSpots.{all-members}
use Rattle.sched_history.proofs.lists.Members.{all-flat_map}
use Rattle.sched_history.proofs.plans.Fronts.{HasFront-plan, length-bytes_of_plan}
use Rattle.sched_history.proofs.reserves.GoodReserves.{MayWait-legal, HaveElementSids-legal}
use Rattle.sched_history.proofs.placements.SpotsFew.{due-few-legal}

-- the SIDs of the live flows fit an element
pub flows_of-in_range : (c : Config) (h : List Entry) → HaveSids (flows_of c h)
flows_of-in_range c h =
    rw sids-range.2 (filter_map-below (λ (f : LiveFlow). f.sid) (flow_at c h) (flow_at-sid c h) (2 ^ 14) 1 sids-range.0
    (omega (arith, sids-range.1)))

table_of-in_range : (h : List Entry) → AllByRecursion (λ p. p.sid < 2 ^ 14) (table_of h)
table_of-in_range h =
    rw sids-range.2 (filter_map-below (λ (p : Placed). p.sid) (placed_at h) (placed_at-sid h) (2 ^ 14) 1 sids-range.0
    (omega (arith, sids-range.1)))

due-sid : (c : Config) (flow : Placed) (start : ℕ) (rests : Bool) → flow.sid < 2 ^ 14
    → (if rests then poll_at c flow start else spot_at c flow start).sid < 2 ^ 14
due-sid c flow start true low = low
due-sid c flow start false low = low

-- and those of their spots
pub due_in-in_range : (c : Config) (k : ℕ) (h : List Entry) → HaveSpotSids (due_in c k (table_of h))
due_in-in_range c k h =
    let fits : Spot → Type 0 = λ s. s.sid < 2 ^ 14 in
    all-flat_map fits (due_of c k) (table_of h) (λ flow member.
    let sid : flow.sid < 2 ^ 14 = All-contains (λ (p : Placed). p.sid < 2 ^ 14) (table_of h) flow
    (All-from_recursion (λ (p : Placed). p.sid < 2 ^ 14) (table_of h) (table_of-in_range h)) member in
    let starts : List ℕ = due_starts c flow (k % c.cycle) in
    all-map fits (due_at c flow) starts (all-members (λ start. fits (due_at c flow start)) starts
    (λ start here. due-sid c flow start flow.rests sid)))

module _ (c : Config) (conf : IsLawful c) where
  -- the next MAP is orderly
  pub next_orderly : (h : List Entry) (m : FrameMap) → IsLegal c h → IsNextMap c h m → IsOrderly c m
  next_orderly h m legal next =
      let d : Demand = demand_after c h in
      let bounds : HasBounds c = bounds_of c conf in
      subst (IsOrderly c) (sym next.2) (record {
        within = few-elements c d next.0 bounds.bursts bounds.pending_most
            (due-few-legal c conf (next_after c h / c.frame) h legal) (flows_of-channel c h) (MayWait-legal c h legal).few
            next.1;
        counted = length-bytes_of_plan c d next.0;
        front = HasFront-plan c d next.0
            (omega (arith, bounds.frame_most)) bounds.requests_positive (omega (arith, bounds.requests_fit))
            (flows_of-in_range c h)
            (due_in-in_range c (next_after c h / c.frame) h) (HaveElementSids-legal c h legal) next.1;
      })

  orderly_more : (h : List Entry) (e : Entry) → IsLegal c h → IsStep c h e.call e.reply
      → AllByRecursion (IsOrderly c) (maps_of h)
      → AllByRecursion (IsOrderly c) (maps_of (h ++ e ∷ []))
  orderly_more h e legal step all = elim (change_by_step c h e.call e.reply step) [
    | Builds m next same ↦ rw (maps_of-built h e m same)
        (all-push (IsOrderly c) (maps_of h) m all (next_orderly h m legal next))
    | Skips now start is first same ↦ rw (maps_of-unbuilt h e (ap map_by same)) all
    | Stays still ↦ rw (maps_of-unbuilt h e still.0) all
  ]

  -- every MAP is
  pub orderly : (h : List Entry) → IsLegal c h → AllByRecursion (IsOrderly c) (maps_of h)
  orderly = legal_induction c (λ h. AllByRecursion (IsOrderly c) (maps_of h)) orderly_more tt
