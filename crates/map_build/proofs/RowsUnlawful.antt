-- Worked examples of MAPs that are not lawful.
use Rattle.std.proofs.Common.{[], ◌∷◌, length, ap, arith}
use Rattle.map_codec.specs.Element.{element_at}
use Rattle.sched_calls.proofs.Base.{base, the_base_has_bursts}
use Rattle.flow_book.proofs.RowsChoice.{low, high, lower_sid, higher_sid}
use Rattle.sched_calls.specs.declared.frame_map.FrameMap.{FrameMap}
use Rattle.sched_calls.specs.Header.{header_of}
use Rattle.map_build.specs.Plan.{demand_at}
use Rattle.map_build.specs.FrameMap.{IsLawfulMap}
use Rattle.map_build.proofs.OneMap.{one_map}
use Rattle.map_build.proofs.Apart.{BeginApart-nil, BeginApart-one}
use Rattle.sched_calls.proofs.BaseMaps.{element, base_map}
use Rattle.map_build.proofs.RowsMaps.{small, second_map, a_frame_with_one_grant}
use Rattle.map_build.proofs.RowsContention.{high_first, both_pending, the_higher_priority_is_served_first}
use Rattle.map_build.proofs.RowsContention.{two_flows_take_turns}
use Rattle.map_build.proofs.RowsPoll.{polled, its_poll, poll_map, a_frame_with_a_poll}

-- two flows have bytes outstanding after the MAP, and one of them has no pending grant
abbrev one_pending : FrameMap
one_pending = base_map 840 800 (element 0x3fff 1 0 ∷ element 20 6 4 ∷ element 0 7 40 ∷ element 20 6 40 ∷ [])
    (0 ∷ 544 ∷ 0 ∷ 0 ∷ [])

-- a MAP that leaves out a pending grant is not lawful
pub a_map_without_a_pending_grant_is_not_lawful : IsLawfulMap base
    (demand_at (lower_sid ∷ higher_sid ∷ []) [] [] 840) (header_of base)
    800 one_pending → ⊥
a_map_without_a_pending_grant_is_not_lawful lawful =
    let e = one_map base (demand_at (lower_sid ∷ higher_sid ∷ []) [] [] 840) the_base_has_bursts BeginApart-nil
    (header_of base) 800 one_pending both_pending
    lawful two_flows_take_turns in
    omega (arith, ap (λ m. length m.wire.elements) e)

-- the flow of priority 1 is served, and that of priority 5 waits
abbrev low_first : FrameMap
low_first = base_map 840 800 (element 0x3fff 1 0 ∷ element 20 6 4 ∷ element 0 7 40 ∷ element 21 6 40 ∷ [])
    (0 ∷ 544 ∷ 0 ∷ 0 ∷ [])

-- a MAP that serves a lower priority first is not lawful
pub a_map_that_serves_the_lower_priority_first_is_not_lawful : IsLawfulMap base
    (demand_at (low ∷ high ∷ []) [] [] 840) (header_of base)
    800 low_first →
    ⊥
a_map_that_serves_the_lower_priority_first_is_not_lawful lawful =
    let e = one_map base (demand_at (low ∷ high ∷ []) [] [] 840) the_base_has_bursts BeginApart-nil
    (header_of base) 800 low_first high_first lawful
    the_higher_priority_is_served_first in
    omega (arith, ap (λ m. (element_at m.wire.elements 1).sid) e)

-- the frame is idle, and the flow that asked has a pending grant
abbrev idle_first : FrameMap
idle_first = base_map 840 800 (element 0x3fff 1 0 ∷ element 0 6 4 ∷ element 0 7 40 ∷ element 17 6 40 ∷ [])
    (0 ∷ 0 ∷ 0 ∷ 0 ∷ [])

-- a MAP whose minislots are idle while a flow is eligible is not lawful
pub a_map_that_idles_while_a_flow_is_eligible_is_not_lawful : IsLawfulMap base
    (demand_at (small ∷ []) [] [] 840) (header_of base)
    800 idle_first → ⊥
a_map_that_idles_while_a_flow_is_eligible_is_not_lawful lawful =
    let e = one_map base (demand_at (small ∷ []) [] [] 840) the_base_has_bursts BeginApart-nil
    (header_of base) 800 idle_first second_map lawful
    a_frame_with_one_grant in
    omega (arith, ap (λ m. (element_at m.wire.elements 1).sid) e)

-- the frame is idle from the request region on, though a poll is due
abbrev without_poll : FrameMap
without_poll = base_map 800 800 (element 0x3fff 1 0 ∷ element 0 6 4 ∷ element 0 7 40 ∷ []) (0 ∷ 0 ∷ 0 ∷ [])

-- a MAP that misses a poll is not lawful
pub a_map_without_a_poll_is_not_lawful : IsLawfulMap base
    (demand_at (polled ∷ []) (its_poll ∷ []) [] 800) (header_of base)
    800 without_poll → ⊥
a_map_without_a_poll_is_not_lawful lawful =
    let e = one_map base (demand_at (polled ∷ []) (its_poll ∷ []) [] 800) the_base_has_bursts (BeginApart-one its_poll)
    (header_of base) 800 without_poll
    poll_map lawful a_frame_with_a_poll in
    omega (arith, ap (λ m. length m.wire.elements) e)
