-- The lawful MAP of a frame.
use Rattle.std.specs.Prelude.{◌≡◌, ℕ, Bool, true, List, ◌∷◌, ◌++◌, map, filter, Some, if◌then◌else◌}
use Rattle.std.specs.List.{slice_get}
use Rattle.minislots.specs.declared.config.Config.{Config}
use Rattle.minislots.specs.Units.{wire_of}
use Rattle.map_codec.specs.declared.element.Element.{Element}
use Rattle.map_codec.specs.declared.element.iuc.TheConstants.{REQUEST, NULL}
use Rattle.flow_book.specs.Flows.{LiveFlow}
use Rattle.flow_book.specs.Shown.{is_shown, ack_of}
use Rattle.map_build.specs.declared.frame.PlannedFrame.{PlannedFrame}
use Rattle.sched_calls.specs.declared.frame_map.FrameMap.{FrameMap}
use Rattle.sched_calls.specs.declared.opportunity.Header.{Header}
use Rattle.map_build.specs.declared.purpose.Allocation.{Allocation}
use Rattle.map_build.specs.UsageCodes.{long_iuc}
use Rattle.map_build.specs.Purpose.{broadcast, element_of, bytes_in}
use Rattle.map_build.specs.Plan.{Demand, flows_after, IsMetIn, IsPlan}

-- the request region, at the head of the MAP of each frame in which modems may send
abbrev pub request_region : Element
request_region = record { sid = broadcast; iuc = REQUEST; offset = 0 }

-- the idle of a MAP in which nobody sends, which is never open
abbrev pub quiet_element : Config → Element
quiet_element c = record { sid = 0; iuc = long_iuc c; offset = 0 }

-- the head of the MAP of a frame that has this to serve
abbrev pub head_of : Config → Demand → Element
head_of c d = if d.settles then quiet_element c else request_region

-- the end of the allocations
abbrev pub null_element : Config → Element
null_element c = record { sid = 0; iuc = NULL; offset = c.frame }

-- the pending grant to an SID
abbrev pub pending_to : Config → ℕ → Element
pending_to c sid = record { sid = sid; iuc = long_iuc c; offset = c.frame }

-- the pending grant of a flow
abbrev pub pending_of : Config → LiveFlow → Element
pending_of c f = pending_to c f.sid

-- a pending grant for each flow that is shown
abbrev pub pending : Config → List LiveFlow → List Element
pending c flows = map (pending_of c) (filter (is_shown c.pending flows) flows)

-- the elements of the MAP with this plan
abbrev pub elements_of : Config → Demand → List Allocation → List Element
elements_of c d plan =
    head_of c d ∷ (map (element_of c) plan ++ null_element c ∷ pending c (flows_after c d.start plan d.flows))

-- the byte counts of the MAP with this plan
abbrev pub bytes_of_plan : Config → Demand → List Allocation → List ℕ
bytes_of_plan c d plan =
    0 ∷ (map (bytes_in c) plan ++ 0 ∷ map (λ e. 0) (pending c (flows_after c d.start plan d.flows)))

-- the MAP of a frame with this header and these elements and byte counts
abbrev pub map_with : Config → Header → ℕ → ℕ → List Element → List ℕ → FrameMap
map_with c header start ack elements bytes = record {
  start = start;
  ack = ack;
  wire = record {
    channel = c.channel;
    ucd_count = header.ucd_count;
    reserved = 0;
    alloc_start = wire_of start;
    ack = wire_of ack;
    ranging_start = header.ranging_start;
    ranging_end = header.ranging_end;
    data_start = header.data_start;
    data_end = header.data_end;
    elements = elements;
  };
  bytes = bytes;
}

-- the MAP with this plan, where all receivers have handed in what they heard before the progress
abbrev pub map_of : Config → Demand → Header → ℕ → List Allocation → FrameMap
map_of c d header progress plan =
    map_with c header d.start (ack_of c.pending progress (flows_after c d.start plan d.flows))
    (elements_of c d plan) (bytes_of_plan c d plan)

-- The MAP is lawful for a frame that has this to serve, with this header and least progress
abbrev pub IsLawfulMap : Config → Demand → Header → ℕ → FrameMap → Type 0
IsLawfulMap c d header progress m = (plan : List Allocation) × IsPlan c d plan × (m ≡ map_of c d header progress plan)

-- the places at which these are true are those of the opportunities in the plan
pub record AreMet (plan : List Allocation) (met : List Bool) : Type 0 where
  pub each : (place : ℕ) → slice_get met place ≡ Some true → IsMetIn plan place
  pub all : (place : ℕ) → IsMetIn plan place → slice_get met place ≡ Some true

-- The MAP is lawful, and so are the live flows with its data grants and the opportunities that it has
pub record IsLawfulFrame (c : Config) (d : Demand) (header : Header) (progress : ℕ) (p : PlannedFrame) : Type 0 where
  pub plan : List Allocation
  pub is_plan : IsPlan c d plan
  pub map : p.map ≡ map_of c d header progress plan
  pub before : p.overlay.before ≡ d.flows
  pub flows : p.overlay.flows ≡ flows_after c d.start plan d.flows
  pub met : AreMet plan p.met
