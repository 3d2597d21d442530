-- How many bytes the text of a possible state has at most.
use Rattle.std.proofs.Common.{◌≡◌, ℕ, ◌+◌, ◌*◌, ◌/◌, ◌≤◌, List, [], ◌∷◌, length, map, Option, Some, None, sum_by}
use Rattle.std.proofs.Common.{refl, arith}
use Rattle.std.specs.List.{AllByRecursion}
use Rattle.std.proofs.lemmas.List.Sums.{sum_by-cons}
use Rattle.std.proofs.lemmas.Nat.{mul-le}
use Rattle.std.proofs.Math.Nat.{div-le_self}
use Rattle.serde_json.specs.View.{items_of}
use Rattle.minislots.specs.declared.config.Config.{Config}
use Rattle.minislots.specs.Config.{IsLawful}
use Rattle.minislots.proofs.Bounds.{bounds_of}
use Rattle.sched_calls.specs.declared.opportunity.Header.{Header}
use Rattle.sched_calls.specs.declared.opportunity.Usage.{Usage}
use Rattle.sched_calls.specs.declared.opportunity.Usage.TheVariants.{Initial, InitialTo, Station, Request, Quiet}
use Rattle.sched_calls.specs.declared.opportunity.Usage.TheVariants.{DataTo}
use Rattle.sched_calls.specs.declared.state.BatchState.{BatchState}
use Rattle.sched_calls.specs.declared.state.ChannelState.{ChannelState}
use Rattle.sched_calls.specs.declared.state.FlowState.{FlowState}
use Rattle.sched_calls.specs.declared.state.PlaceState.{PlaceState}
use Rattle.sched_calls.specs.declared.state.ReserveState.{ReserveState}
use Rattle.sched_calls.specs.FlowSpec.{interval_frames, grants_of}
use Rattle.channel_states.specs.PossibleFlow.{IsPossibleFlow}
use Rattle.channel_states.specs.Possible.{IsPossible}
use Rattle.channel_states.proofs.Taking.{own-place, own-parts}
use Rattle.state_text.specs.StateText.{maybe_data, batch_data, batches_data, place_data, placed_data}
use Rattle.state_text.specs.StateText.{flow_state_data, flow_states_data, usage_name, usage_sid, reserve_state_data}
use Rattle.state_text.specs.StateText.{reserve_states_data, header_data, state_data}
use Rattle.segment_line.proofs.TextRoom.{room, items_room, quoted_room}
use Rattle.segment_line.proofs.ConfigRoom.{room-counts, room-flow}

room-maybe : (n : Option ℕ) → room (maybe_data n) ≤ 20
room-maybe None = omega arith
room-maybe (Some n) = omega arith

room-batches : (b : Option BatchState) → room (batches_data b) ≤ 88
unfolding batch_data
room-batches None = omega arith
room-batches (Some b) = let second = room-maybe b.second in omega (arith, second)

room-place : (p : PlaceState) → room (place_data p) ≤ 102 + 21 * length p.starts
unfolding place_data
room-place p = let starts = room-counts p.starts in omega (arith, starts)

room-flow_state : (f : FlowState) → room (flow_state_data f) ≤ 536 + room (placed_data f.place)
unfolding flow_state_data
room-flow_state f =
    let batches = room-batches f.batches in
    let spec = room-flow f.spec in
    let last = room-maybe f.last in
    let peak = room-maybe f.peak in
    let reserved = room-maybe f.reserved in
    let sustained = room-maybe f.sustained in
    omega (arith, batches, spec, last, peak, reserved, sustained)

-- a name of a usage
room-usage : (u : Usage) → quoted_room (usage_name u) ≤ 12
room-usage Initial = omega arith
room-usage (InitialTo sid) = omega arith
room-usage (Station sid) = omega arith
room-usage (Request sid) = omega arith
room-usage Quiet = omega arith
room-usage (DataTo sid) = omega arith

room-reserve : (r : ReserveState) → room (reserve_state_data r) ≤ 107
unfolding reserve_state_data
room-reserve r =
    let sid = room-maybe (usage_sid r.opportunity.usage) in
    let name = room-usage r.opportunity.usage in
    omega (arith, sid, name)

room-reserves : (rs : List ReserveState) → items_room (items_of (map reserve_state_data rs)) ≤ 108 * length rs
room-reserves [] = omega arith
room-reserves (r ∷ rs) =
    let here = room-reserve r in
    let rest = room-reserves rs in
    omega (arith, here, rest)

room-header : (h : Header) → room (header_data h) ≤ 173
unfolding header_data
room-header h = omega arith

module _ (c : Config) (lawful : IsLawful c) (entries next : ℕ) where
  -- a flow has at most 64 starts for each of its grants
  starts-most : (f : FlowState) (p : PlaceState) → IsPossibleFlow c entries next f → f.place ≡ Some p
      → length p.starts ≤ 64 * grants_of f.spec
  starts-most f p is here =
      let own = (own-place c entries next f p is here).1 in
      let frames = interval_frames c f.spec in
      let cycle = (bounds_of c lawful).cycle_most in
      let some = div-le_self c.cycle frames in
      omega (
        arith,
        own.starts.count,
        mul-le (c.cycle / frames) (grants_of f.spec) 64 (grants_of f.spec)
            (omega (arith, cycle, some)) (omega arith),
      )

  placed-most : (f : FlowState) (place : Option PlaceState) → IsPossibleFlow c entries next f → f.place ≡ place
      → room (placed_data place) ≤ 4 + 1442 * grants_of f.spec
  placed-most f None is here = omega arith
  placed-most f (Some p) is here =
      let parts = own-parts c entries next f p lawful is here in
      omega (arith, room-place p, starts-most f p is here, parts.grants_positive)

  -- the flows of a possible state
  room-flows : (fs : List FlowState) → AllByRecursion (IsPossibleFlow c entries next) fs
      → items_room (items_of (map flow_state_data fs))
      ≤ 541 * length fs + 1442 * sum_by (λ f. grants_of f.spec) fs
  room-flows [] all = omega arith
  room-flows (f ∷ fs) all =
      let here = room-flow_state f in
      let place = placed-most f f.place all.0 refl in
      let rest = room-flows fs all.1 in
      let sum = sum_by-cons (λ (g : FlowState). grants_of g.spec) f fs in
      omega (arith, here, place, rest, sum)

-- a possible state
pub room-state : (c : Config) (s : ChannelState) → IsLawful c → IsPossible c s → room (state_data s) ≤ 8200000
unfolding state_data flow_states_data reserve_states_data
room-state c s lawful is =
    let bounds = bounds_of c lawful in
    let change = room-maybe s.change in
    let flows = room-flows c lawful s.entries s.next s.flows is.flows in
    let header = room-header s.header in
    let progress = room-counts s.progress in
    let reserves = room-reserves s.reserves in
    omega (
      arith,
      change,
      flows,
      header,
      progress,
      reserves,
      is.limits.flows_most,
      is.limits.grants_most,
      is.times.receivers,
      is.reserves.few,
      bounds.flows_most,
      bounds.periodic_most,
      bounds.receivers_most,
    )
