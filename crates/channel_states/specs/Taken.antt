-- What flows take of one frame.
use Rattle.std.specs.Prelude.{ℕ, List, [], Option, None, Some, take}
use Rattle.minislots.specs.declared.config.Config.{Config}
use Rattle.sched_calls.specs.FlowSpec.{size_of}
use Rattle.sched_calls.specs.declared.state.FlowState.{FlowState}
use Rattle.periodic.specs.declared.placement.Spot.{Spot}
use Rattle.periodic.specs.Placement.{Placed, spots_of}
use Rattle.channel_states.specs.declared.frame.Taken.{Taken}
use Rattle.periodic.specs.Carried.{placed_of}

-- the spots that are taken
abbrev pub taken_in : Taken → List Spot
taken_in t = take t.count t.spots

-- what a placed flow takes of frame k, where there is one
abbrev pub spots_where : Config → ℕ → Option Placed → List Spot
spots_where c k None = []
spots_where c k (Some f) = spots_of c k f

-- what a flow takes of the frame at a place of the cycle
abbrev pub taken_by : Config → ℕ → FlowState → List Spot
taken_by c place f = spots_where c place (placed_of c f)

-- a spot of a flow that starts there
abbrev pub spot_from : FlowState → ℕ → ℕ → Spot
spot_from f slots start = record { sid = f.sid; size = size_of f.spec; offset = start; slots = slots }
