-- The state of a history: what the replies after it depend on.
use Rattle.std.specs.Prelude.{List, map}
use Rattle.minislots.specs.declared.config.Config.{Config}
use Rattle.flow_book.specs.Flows.{LiveFlow}
use Rattle.flow_book.specs.FlowState.{flow_state}
use Rattle.periodic.specs.Placement.{Placed}
use Rattle.periodic.specs.PlaceState.{place_state_of}
use Rattle.sched_calls.specs.declared.reply.Entry.{Entry}
use Rattle.sched_calls.specs.declared.state.ChannelState.{ChannelState}
use Rattle.sched_calls.specs.declared.state.FlowState.{FlowState}
use Rattle.sched_calls.specs.declared.state.ReserveState.{ReserveState}
use Rattle.sched_history.specs.declared.scheduler.reserves.Reserve.{Reserve}
use Rattle.sched_history.specs.Situation.{Situation, situation_of}

-- a live flow, with its place where it is among those that are placed
abbrev pub flow_state_in : Config → List Placed → LiveFlow → FlowState
flow_state_in c placed f = record (flow_state c f) { place = place_state_of c f.sid placed }

-- a Reserve that waits
abbrev pub reserve_state : Reserve → ReserveState
reserve_state r = record { opportunity = r.opportunity; maps = r.maps }

-- the state that a history leaves: the number of its entries; where the next MAP starts; how far each receiver has
-- handed in what it heard; the last MAP's acknowledge time and UCD count, the header of the next one, and where the
-- last MAP starts that changed the UCD count; the live flows, in order of SID; and the Reserves that wait, in their
-- order
abbrev pub state_in : Config → Situation → ChannelState
state_in c s = record {
  entries = s.entries;
  next = s.next;
  progress = s.progress;
  ack = s.ack;
  header = s.header;
  ucd_count = s.settling.count;
  change = s.settling.change;
  flows = map (flow_state_in c s.placed) s.flows;
  reserves = map reserve_state s.reserves;
}

-- the state after a history
abbrev pub state_of : Config → List Entry → ChannelState
state_of c h = state_in c (situation_of c h)
