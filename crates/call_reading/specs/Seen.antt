-- What the members of an object say of a call, member by member. Only private clauses cite it.
use Rattle.std.specs.Prelude.{◌≡◌, ℕ, ◌^◌, ◌||◌, Bool, false, List, if◌then◌else◌, codes, bytes_eq, Option, Some, None}
use Rattle.std.specs.Prelude.{option_map, is_some}
use Rattle.serde_json.specs.Data.{Data, Members}
use Rattle.serde_json.specs.Find.{get_member, as_str, as_number, as_u64}
use Rattle.sched_calls.specs.declared.amount.Amount.{Amount}
use Rattle.sched_calls.specs.declared.amount.Amount.TheVariants.{Bytes, Slots}
use Rattle.sched_calls.specs.declared.spec.FlowSpec.{FlowSpec}
use Rattle.sched_calls.specs.declared.call.Call.{Call}
use Rattle.sched_calls.specs.declared.call.Call.TheVariants.{Admit, Remove, Ask, Heard, Build, Skip, Status}
use Rattle.sched_calls.specs.declared.call.Call.TheVariants.{Reserve, Header, Replace, Change, Rest, Wake}
use Rattle.sched_calls.specs.declared.opportunity.Usage.{Usage}
use Rattle.sched_calls.specs.declared.opportunity.Usage.TheVariants.{Initial, Quiet}
use Rattle.json_fields.specs.Fields.{◌>>=◌, below}
use Rattle.call_reading.specs.declared.found.Found.{Found}
use Rattle.call_reading.specs.declared.found.Ranging.{Ranging}
use Rattle.call_reading.specs.Calls.{flow_of, usage_to}

-- what stands under each key that a call may have, and whether anything stands under those of which only one may stand,
-- and whether there is a configuration
pub record Seen : Type 0 where
  pub name : Option (List ℕ)
  pub sid : Option ℕ
  pub receiver : Option ℕ
  pub bytes : Option ℕ
  pub heard : Option ℕ
  pub upto : Option ℕ
  pub time : Option ℕ
  pub flow : Option FlowSpec
  pub usage : Option (List ℕ)
  pub slots : Option ℕ
  pub ucd_count : Option ℕ
  pub ranging_start : Option ℕ
  pub ranging_end : Option ℕ
  pub data_start : Option ℕ
  pub data_end : Option ℕ
  pub has_bytes : Bool
  pub has_slots : Bool
  pub opening : Bool

-- the whole number that a value is
abbrev pub whole_in : Data → Option ℕ
whole_in d = as_number d >>= as_u64

-- the whole number below 256 that a value is
abbrev pub byte_in : Data → Option ℕ
byte_in d = whole_in d >>= below (2 ^ 8)

-- what these members say
abbrev pub seen_in : Members → Seen
seen_in ms = record {
  name = get_member (codes "call") ms >>= as_str;
  sid = get_member (codes "sid") ms >>= whole_in;
  receiver = get_member (codes "receiver") ms >>= whole_in;
  bytes = get_member (codes "bytes") ms >>= whole_in;
  heard = get_member (codes "heard") ms >>= whole_in;
  upto = get_member (codes "upto") ms >>= whole_in;
  time = get_member (codes "now") ms >>= whole_in;
  flow = get_member (codes "flow") ms >>= flow_of;
  usage = get_member (codes "usage") ms >>= as_str;
  slots = get_member (codes "slots") ms >>= whole_in;
  ucd_count = get_member (codes "ucd_count") ms >>= byte_in;
  ranging_start = get_member (codes "ranging_start") ms >>= byte_in;
  ranging_end = get_member (codes "ranging_end") ms >>= byte_in;
  data_start = get_member (codes "data_start") ms >>= byte_in;
  data_end = get_member (codes "data_end") ms >>= byte_in;
  has_bytes = is_some (get_member (codes "bytes") ms);
  has_slots = is_some (get_member (codes "slots") ms);
  opening = is_some (get_member (codes "config") ms);
}

-- what they say with one member more
abbrev pub seen_with : List ℕ → Data → Seen → Seen
seen_with k d s = record {
  name = if bytes_eq k (codes "call") then as_str d else s.name;
  sid = if bytes_eq k (codes "sid") then whole_in d else s.sid;
  receiver = if bytes_eq k (codes "receiver") then whole_in d else s.receiver;
  bytes = if bytes_eq k (codes "bytes") then whole_in d else s.bytes;
  heard = if bytes_eq k (codes "heard") then whole_in d else s.heard;
  upto = if bytes_eq k (codes "upto") then whole_in d else s.upto;
  time = if bytes_eq k (codes "now") then whole_in d else s.time;
  flow = if bytes_eq k (codes "flow") then flow_of d else s.flow;
  usage = if bytes_eq k (codes "usage") then as_str d else s.usage;
  slots = if bytes_eq k (codes "slots") then whole_in d else s.slots;
  ucd_count = if bytes_eq k (codes "ucd_count") then byte_in d else s.ucd_count;
  ranging_start = if bytes_eq k (codes "ranging_start") then byte_in d else s.ranging_start;
  ranging_end = if bytes_eq k (codes "ranging_end") then byte_in d else s.ranging_end;
  data_start = if bytes_eq k (codes "data_start") then byte_in d else s.data_start;
  data_end = if bytes_eq k (codes "data_end") then byte_in d else s.data_end;
  has_bytes = bytes_eq k (codes "bytes") || s.has_bytes;
  has_slots = bytes_eq k (codes "slots") || s.has_slots;
  opening = bytes_eq k (codes "config") || s.opening;
}

-- what no members say
abbrev pub nothing : Seen
nothing = record {
  name = None;
  sid = None;
  receiver = None;
  bytes = None;
  heard = None;
  upto = None;
  time = None;
  flow = None;
  usage = None;
  slots = None;
  ucd_count = None;
  ranging_start = None;
  ranging_end = None;
  data_start = None;
  data_end = None;
  has_bytes = false;
  has_slots = false;
  opening = false;
}

-- what was found of ranging, where something was
abbrev pub ranging_in : Option Ranging → Ranging
ranging_in None = record {
  usage = None;
  slots = None;
  ucd_count = None;
  ranging_start = None;
  ranging_end = None;
  data_start = None;
  data_end = None;
}
ranging_in (Some ranging) = ranging

-- what was found, where no configuration was and nothing but whole numbers under the keys of an amount
abbrev pub seen_of : Found → Seen
seen_of f = record {
  name = option_map (λ s. s.now) f.name;
  sid = f.sid;
  receiver = f.receiver;
  bytes = f.bytes;
  heard = f.heard;
  upto = f.upto;
  time = f.time;
  flow = f.flow;
  usage = option_map (λ s. s.now) (ranging_in f.ranging).usage;
  slots = (ranging_in f.ranging).slots;
  ucd_count = (ranging_in f.ranging).ucd_count;
  ranging_start = (ranging_in f.ranging).ranging_start;
  ranging_end = (ranging_in f.ranging).ranging_end;
  data_start = (ranging_in f.ranging).data_start;
  data_end = (ranging_in f.ranging).data_end;
  has_bytes = is_some f.bytes;
  has_slots = is_some (ranging_in f.ranging).slots;
  opening = false;
}

-- what was found of ranging differs by a value under this key
abbrev pub IsNoted : List ℕ → Data → Ranging → Ranging → Type 0
IsNoted k d old new = (f : Found)
    → seen_of (record f { ranging = Some new }) ≡ seen_with k d (seen_of (record f { ranging = Some old }))

-- an admission
unfoldable pub seen_admit : Seen → Option Call
seen_admit s = do
  sid ← s.sid >>= below (2 ^ 16)
  flow ← s.flow
  Some (Admit sid flow)

-- a removal
unfoldable pub seen_remove : Seen → Option Call
seen_remove s = do
  sid ← s.sid >>= below (2 ^ 16)
  Some (Remove sid)

-- how much a request asks for: exactly one of its two members stands
unfoldable pub seen_amount : Seen → Option Amount
seen_amount s =
    if s.has_slots
    then (if s.has_bytes then None
    else (s.slots >>= below (2 ^ 32) >>= (λ slots. Some (Slots slots))))
    else (s.bytes >>= below (2 ^ 32) >>= (λ bytes. Some (Bytes bytes)))

-- a request
unfoldable pub seen_ask : Seen → Option Call
seen_ask s = do
  receiver ← s.receiver >>= below (2 ^ 8)
  sid ← s.sid >>= below (2 ^ 16)
  amount ← seen_amount s
  heard ← s.heard >>= below (2 ^ 64)
  Some (Ask receiver sid amount heard)

-- a receiver's progress
unfoldable pub seen_heard : Seen → Option Call
seen_heard s = do
  receiver ← s.receiver >>= below (2 ^ 8)
  upto ← s.upto >>= below (2 ^ 64)
  Some (Heard receiver upto)

-- a build
unfoldable pub seen_build : Seen → Option Call
seen_build s = do
  now ← s.time >>= below (2 ^ 64)
  Some (Build now)

-- a skip
unfoldable pub seen_skip : Seen → Option Call
seen_skip s = do
  now ← s.time >>= below (2 ^ 64)
  Some (Skip now)

-- a question for a flow's bytes
unfoldable pub seen_status : Seen → Option Call
seen_status s = do
  sid ← s.sid >>= below (2 ^ 16)
  Some (Status sid)

-- what an opportunity is used for
unfoldable pub seen_usage : Seen → Option Usage
seen_usage s = do
  usage ← s.usage
  if bytes_eq usage (codes "initial") then Some Initial
      else (if bytes_eq usage (codes "quiet") then Some Quiet
      else (s.sid >>= below (2 ^ 16) >>= usage_to usage))

-- a Reserve
unfoldable pub seen_reserve : Seen → Option Call
seen_reserve s = do
  usage ← seen_usage s
  slots ← s.slots >>= below (2 ^ 32)
  Some (Reserve usage slots)

-- a header
unfoldable pub seen_header : Seen → Option Call
seen_header s = do
  count ← s.ucd_count
  ranging_start ← s.ranging_start
  ranging_end ← s.ranging_end
  data_start ← s.data_start
  data_end ← s.data_end
  Some (Header (record {
    ucd_count = count;
    ranging_start = ranging_start;
    ranging_end = ranging_end;
    data_start = data_start;
    data_end = data_end;
  }))

-- a request that supersedes those before
unfoldable pub seen_replace : Seen → Option Call
seen_replace s = do
  receiver ← s.receiver >>= below (2 ^ 8)
  sid ← s.sid >>= below (2 ^ 16)
  amount ← seen_amount s
  heard ← s.heard >>= below (2 ^ 64)
  Some (Replace receiver sid amount heard)

-- a change of a flow's parameters
unfoldable pub seen_change : Seen → Option Call
seen_change s = do
  sid ← s.sid >>= below (2 ^ 16)
  flow ← s.flow
  Some (Change sid flow)

-- a flow's rest
unfoldable pub seen_rest : Seen → Option Call
seen_rest s = do
  sid ← s.sid >>= below (2 ^ 16)
  Some (Rest sid)

-- the end of a rest
unfoldable pub seen_wake : Seen → Option Call
seen_wake s = do
  sid ← s.sid >>= below (2 ^ 16)
  Some (Wake sid)

-- the call, by its name
unfoldable pub seen_call : Seen → Option Call
seen_call s = do
  name ← s.name
  if bytes_eq name (codes "admit") then seen_admit s
      else (if bytes_eq name (codes "remove") then seen_remove s
      else (if bytes_eq name (codes "ask") then seen_ask s
      else (if bytes_eq name (codes "heard") then seen_heard s
      else (if bytes_eq name (codes "build") then seen_build s
      else (if bytes_eq name (codes "skip") then seen_skip s
      else (if bytes_eq name (codes "status") then seen_status s
      else (if bytes_eq name (codes "reserve") then seen_reserve s
      else (if bytes_eq name (codes "header") then seen_header s
      else (if bytes_eq name (codes "replace") then seen_replace s
      else (if bytes_eq name (codes "change") then seen_change s
      else (if bytes_eq name (codes "rest") then seen_rest s
      else (if bytes_eq name (codes "wake") then seen_wake s
      else None))))))))))))
