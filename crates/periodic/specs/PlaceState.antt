-- The place of a periodic flow, as the state of a scheduler tells it.
use Rattle.std.specs.Prelude.{ℕ, ◌==◌, List, Option, option_map, find}
use Rattle.minislots.specs.declared.config.Config.{Config}
use Rattle.sched_calls.specs.declared.state.PlaceState.{PlaceState}
use Rattle.periodic.specs.Placement.{Placed, phase_of, offset_of}

-- the place of a placed flow: its phase, nominal offset and starts, and whether it rests. Where its reference is, of
-- all its nominal times, is no part of it
abbrev pub place_state : Config → Placed → PlaceState
place_state c f = record {
  phase = phase_of c f.spec f.placement;
  offset = offset_of c f.placement;
  starts = f.placement.starts;
  rests = f.rests;
}

-- the place of the flow of this SID, where it is placed
abbrev pub place_state_of : Config → ℕ → List Placed → Option PlaceState
place_state_of c sid placed = option_map (place_state c) (find (λ f. f.sid == sid) placed)
