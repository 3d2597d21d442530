-- The state whose parts an object has under their keys, whatever else it has. Only private clauses cite it.
use Rattle.std.specs.Prelude.{ℕ, ◌^◌, ◌==◌, List, [], ◌∷◌, codes, bytes_eq, Option, Some, None, if◌then◌else◌}
use Rattle.serde_json.specs.Data.{Data, Items, no_items, item}
use Rattle.serde_json.specs.Find.{get, as_number, as_u64, as_array}
use Rattle.sched_calls.specs.declared.opportunity.Header.{Header}
use Rattle.sched_calls.specs.declared.opportunity.Usage.{Usage}
use Rattle.sched_calls.specs.declared.opportunity.Usage.TheVariants.{Initial, InitialTo, Station, Request, Quiet}
use Rattle.sched_calls.specs.declared.opportunity.Usage.TheVariants.{DataTo}
use Rattle.sched_calls.specs.declared.state.BatchState.{BatchState}
use Rattle.sched_calls.specs.declared.state.ChannelState.{ChannelState}
use Rattle.sched_calls.specs.declared.state.FlowState.{FlowState}
use Rattle.sched_calls.specs.declared.state.PlaceState.{PlaceState}
use Rattle.sched_calls.specs.declared.state.ReserveState.{ReserveState}
use Rattle.json_fields.specs.Fields.{◌>>=◌, below, u8_at, u16_at, u64_at, text_at}
use Rattle.call_reading.specs.Calls.{flow_of}

-- what each value stands for
unfoldable pub each_in : {X : Type 0} → (Data → Option X) → Items → Option (List X)
each_in f no_items = Some []
each_in f (item d ds) = do
  x ← f d
  xs ← each_in f ds
  Some (x ∷ xs)

-- what each item of the array under this key stands for
unfoldable pub each_at : {X : Type 0} → (Data → Option X) → List ℕ → Data → Option (List X)
each_at f key d = do
  found ← get key d
  items ← as_array found
  each_in f items

-- a whole number below the limit
unfoldable pub number_in : ℕ → Data → Option ℕ
number_in limit d = do
  number ← as_number d
  n ← as_u64 number
  below limit n

-- batches of requests
unfoldable pub batch_in : Data → Option BatchState
batch_in d = do
  end ← u64_at (codes "end") d
  first ← u64_at (codes "first") d
  Some (record { end = end; first = first; second = u64_at (codes "second") d })

-- a place
unfoldable pub place_in : Data → Option PlaceState
place_in d = do
  phase ← u64_at (codes "phase") d
  offset ← u64_at (codes "offset") d
  rests ← u64_at (codes "rests") d
  starts ← each_at (number_in (2 ^ 16)) (codes "starts") d
  Some (record { phase = phase; offset = offset; starts = starts; rests = rests == 1 })

-- a live flow
unfoldable pub flow_state_in : Data → Option FlowState
flow_state_in d = do
  sid ← u16_at (codes "sid") d
  spec ← get (codes "flow") d >>= flow_of
  asked ← u64_at (codes "asked") d
  granted ← u64_at (codes "granted") d
  Some (record {
    sid = sid;
    spec = spec;
    asked = asked;
    granted = granted;
    last = u64_at (codes "last") d;
    sustained = u64_at (codes "sustained") d;
    peak = u64_at (codes "peak") d;
    reserved = u64_at (codes "reserved") d;
    batches = get (codes "batches") d >>= batch_in;
    place = get (codes "place") d >>= place_in;
  })

-- the usage of this name, with its SID where it has one
abbrev pub usage_named : List ℕ → Option ℕ → Option Usage
usage_named name None =
    if bytes_eq name (codes "initial") then Some Initial
    else (if bytes_eq name (codes "quiet") then Some Quiet else None)
usage_named name (Some sid) =
    if bytes_eq name (codes "initial_to") then Some (InitialTo sid)
    else (if bytes_eq name (codes "station") then Some (Station sid)
    else (if bytes_eq name (codes "request") then Some (Request sid)
    else (if bytes_eq name (codes "data") then Some (DataTo sid) else None)))

-- a Reserve
unfoldable pub reserve_state_in : Data → Option ReserveState
reserve_state_in d = do
  name ← text_at (codes "usage") d
  usage ← usage_named name (u16_at (codes "sid") d)
  slots ← u16_at (codes "slots") d
  maps ← u8_at (codes "maps") d
  Some (record { opportunity = record { usage = usage; slots = slots }; maps = maps })

-- the header of the next MAP
unfoldable pub header_in : Data → Option Header
header_in d = do
  count ← u8_at (codes "ucd_count") d
  ranging_start ← u8_at (codes "ranging_start") d
  ranging_end ← u8_at (codes "ranging_end") d
  data_start ← u8_at (codes "data_start") d
  data_end ← u8_at (codes "data_end") d
  Some (record {
    ucd_count = count;
    ranging_start = ranging_start;
    ranging_end = ranging_end;
    data_start = data_start;
    data_end = data_end;
  })

-- a state
unfoldable pub state_in : Data → Option ChannelState
state_in d = do
  entries ← u64_at (codes "entries") d
  next ← u64_at (codes "next") d
  ack ← u64_at (codes "ack") d
  ucd_count ← u8_at (codes "ucd_count") d
  found ← get (codes "header") d
  header ← header_in found
  progress ← each_at (number_in (2 ^ 64)) (codes "progress") d
  flows ← each_at flow_state_in (codes "flows") d
  reserves ← each_at reserve_state_in (codes "reserves") d
  Some (record {
    entries = entries;
    next = next;
    progress = progress;
    ack = ack;
    header = header;
    ucd_count = ucd_count;
    change = u64_at (codes "change") d;
    flows = flows;
    reserves = reserves;
  })
