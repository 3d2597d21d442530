-- The text of a state: its JSON value in compact form, members in ascending order of their keys. A member is always
-- there: where there is nothing to tell it is null.
use Rattle.std.specs.Prelude.{◌≡◌, ℕ, Bool, List, map, codes, Option, None, Some, if◌then◌else◌, IsSomeAnd, IsUtf8}
use Rattle.json.specs.Json.{document}
use Rattle.json.specs.Strict.{HasUniqueKeys}
use Rattle.serde_json.specs.Data.{Data, null, string, array, object, no_members, member}
use Rattle.serde_json.specs.Read.{read}
use Rattle.serde_json.specs.View.{items_of}
use Rattle.serde_json.specs.Written.{compact_text}
use Rattle.sched_calls.specs.declared.opportunity.Header.{Header}
use Rattle.sched_calls.specs.declared.opportunity.Usage.{Usage}
use Rattle.sched_calls.specs.declared.opportunity.Usage.TheVariants.{Initial, InitialTo, Station, Request, Quiet}
use Rattle.sched_calls.specs.declared.opportunity.Usage.TheVariants.{DataTo}
use Rattle.sched_calls.specs.declared.state.BatchState.{BatchState}
use Rattle.sched_calls.specs.declared.state.ChannelState.{ChannelState}
use Rattle.sched_calls.specs.declared.state.FlowState.{FlowState}
use Rattle.sched_calls.specs.declared.state.PlaceState.{PlaceState}
use Rattle.sched_calls.specs.declared.state.ReserveState.{ReserveState}
use Rattle.history_writing.specs.Json.{count, counts, flow_data}

-- a whole number, or null where there is none
abbrev pub maybe_data : Option ℕ → Data
maybe_data None = null
maybe_data (Some n) = count n

-- the batches of a flow
unfoldable pub batch_data : BatchState → Data
batch_data b = object (
    member (codes "end") (count b.end) (member (codes "first") (count b.first) (
    member (codes "second") (maybe_data b.second) no_members)))

-- those of a flow that waits, or null
abbrev pub batches_data : Option BatchState → Data
batches_data None = null
batches_data (Some b) = batch_data b

-- 1 where something is so, and else 0
abbrev pub flag : Bool → ℕ
flag is = if is then 1 else 0

-- the place of a flow
unfoldable pub place_data : PlaceState → Data
place_data p = object (
    member (codes "offset") (count p.offset) (member (codes "phase") (count p.phase) (
    member (codes "rests") (count (flag p.rests)) (member (codes "starts") (counts p.starts) no_members))))

-- that of a flow that is placed, or null
abbrev pub placed_data : Option PlaceState → Data
placed_data None = null
placed_data (Some p) = place_data p

-- a live flow, with its parameters as they stand in a history
unfoldable pub flow_state_data : FlowState → Data
flow_state_data f = object (
    member (codes "asked") (count f.asked) (member (codes "batches") (batches_data f.batches) (
    member (codes "flow") (flow_data f.spec) (member (codes "granted") (count f.granted) (
    member (codes "last") (maybe_data f.last) (member (codes "peak") (maybe_data f.peak) (
    member (codes "place") (placed_data f.place) (member (codes "reserved") (maybe_data f.reserved) (
    member (codes "sid") (count f.sid) (
    member (codes "sustained") (maybe_data f.sustained) no_members))))))))))

-- the name of a usage
abbrev pub usage_name : Usage → List ℕ
usage_name Initial = codes "initial"
usage_name (InitialTo sid) = codes "initial_to"
usage_name (Station sid) = codes "station"
usage_name (Request sid) = codes "request"
usage_name Quiet = codes "quiet"
usage_name (DataTo sid) = codes "data"

-- its SID, where it has one
abbrev pub usage_sid : Usage → Option ℕ
usage_sid Initial = None
usage_sid (InitialTo sid) = Some sid
usage_sid (Station sid) = Some sid
usage_sid (Request sid) = Some sid
usage_sid Quiet = None
usage_sid (DataTo sid) = Some sid

-- a Reserve that waits
unfoldable pub reserve_state_data : ReserveState → Data
reserve_state_data r = object (
    member (codes "maps") (count r.maps) (member (codes "sid") (maybe_data (usage_sid r.opportunity.usage)) (
    member (codes "slots") (count r.opportunity.slots) (
    member (codes "usage") (string (usage_name r.opportunity.usage)) no_members))))

-- the header of the next MAP
unfoldable pub header_data : Header → Data
header_data h = object (
    member (codes "data_end") (count h.data_end) (member (codes "data_start") (count h.data_start) (
    member (codes "ranging_end") (count h.ranging_end) (member (codes "ranging_start") (count h.ranging_start) (
    member (codes "ucd_count") (count h.ucd_count) no_members)))))

-- the flows, in their order
unfoldable pub flow_states_data : List FlowState → Data
flow_states_data fs = array (items_of (map flow_state_data fs))

-- the Reserves, in their order
unfoldable pub reserve_states_data : List ReserveState → Data
reserve_states_data rs = array (items_of (map reserve_state_data rs))

-- a state
unfoldable pub state_data : ChannelState → Data
state_data s = object (
    member (codes "ack") (count s.ack) (member (codes "change") (maybe_data s.change) (
    member (codes "entries") (count s.entries) (member (codes "flows") (flow_states_data s.flows) (
    member (codes "header") (header_data s.header) (member (codes "next") (count s.next) (
    member (codes "progress") (counts s.progress) (member (codes "reserves") (reserve_states_data s.reserves) (
    member (codes "ucd_count") (count s.ucd_count) no_members)))))))))

-- the text of a state: without a space
unfoldable pub state_text : ChannelState → List ℕ
state_text s = compact_text (state_data s)

-- a text of a state: its value is the state's, whatever the order of its keys and the spaces between them, and no
-- object in it has a key twice
pub record IsStateText (text : List ℕ) (s : ChannelState) : Type 0 where
  pub utf8 : IsUtf8 text
  pub value_is : read text ≡ Some (state_data s)
  pub once : IsSomeAnd (document text) HasUniqueKeys
