-- The flow and the call that a JSON object stands for.
use Rattle.std.specs.Prelude.{◌≡◌, ℕ, if◌then◌else◌, codes, bytes_eq, List, Option, Some, None, is_some}
use Rattle.serde_json.specs.Data.{Data}
use Rattle.serde_json.specs.Find.{get}
use Rattle.sched_calls.specs.declared.amount.Amount.{Amount}
use Rattle.sched_calls.specs.declared.amount.Amount.TheVariants.{Bytes, Slots}
use Rattle.sched_calls.specs.declared.spec.FlowSpec.{FlowSpec}
use Rattle.sched_calls.specs.declared.spec.FlowSpec.TheVariants.{Unsolicited, Polled, BestEffort}
use Rattle.sched_calls.specs.declared.opportunity.Usage.{Usage}
use Rattle.sched_calls.specs.declared.opportunity.Usage.TheVariants.{Initial, InitialTo, Station}
use Rattle.sched_calls.specs.declared.opportunity.Usage.TheVariants.{Request, Quiet, DataTo}
use Rattle.sched_calls.specs.declared.call.Call.{Call}
use Rattle.sched_calls.specs.declared.call.Call.TheVariants.{Admit, Remove, Ask, Heard, Build, Skip, Status}
use Rattle.sched_calls.specs.declared.call.Call.TheVariants.{Reserve, Header, Replace, Change, Rest, Wake}
use Rattle.json_fields.specs.Fields.{◌>>=◌, u8_at, u16_at, u32_at, u64_at, u8_or, u32_or, text_at}

-- a flow of unsolicited grants: one in an interval where their number is missing
unfoldable pub unsolicited_of : Data → Option FlowSpec
unsolicited_of d = do
  size ← u32_at (codes "size") d
  interval ← u32_at (codes "interval_us") d
  jitter ← u32_at (codes "jitter_us") d
  grants ← u8_or 1 (codes "grants") d
  Some (Unsolicited size interval jitter grants)

-- a polled flow: its peak rate is no ceiling where it is missing
unfoldable pub polled_of : Data → Option FlowSpec
polled_of d = do
  interval ← u32_at (codes "interval_us") d
  jitter ← u32_at (codes "jitter_us") d
  rate ← u32_at (codes "rate") d
  burst ← u32_at (codes "burst") d
  peak ← u32_or 0 (codes "peak") d
  Some (Polled interval jitter rate burst peak)

-- a best effort flow: the same, and nothing is reserved where its reserved rate is missing
unfoldable pub best_effort_of : Data → Option FlowSpec
best_effort_of d = do
  priority ← u8_at (codes "priority") d
  rate ← u32_at (codes "rate") d
  burst ← u32_at (codes "burst") d
  peak ← u32_or 0 (codes "peak") d
  reserved ← u32_or 0 (codes "reserved") d
  reserved-burst ← u32_or 0 (codes "reserved_burst") d
  Some (BestEffort priority rate burst peak reserved reserved-burst)

-- the flow that an object stands for, by its kind
unfoldable pub flow_of : Data → Option FlowSpec
flow_of d = do
  kind ← text_at (codes "kind") d
  if bytes_eq kind (codes "unsolicited") then unsolicited_of d
      else (if bytes_eq kind (codes "polled") then polled_of d
      else (if bytes_eq kind (codes "best_effort") then best_effort_of d
      else None))

-- an admission
unfoldable pub admit_call : Data → Option Call
admit_call d = do
  sid ← u16_at (codes "sid") d
  found ← get (codes "flow") d
  flow ← flow_of found
  Some (Admit sid flow)

-- a removal
unfoldable pub remove_call : Data → Option Call
remove_call d = do
  sid ← u16_at (codes "sid") d
  Some (Remove sid)

-- how much a request asks for: exactly one of its two members stands
unfoldable pub amount_of : Data → Option Amount
amount_of d =
    if is_some (get (codes "slots") d)
    then (if is_some (get (codes "bytes") d) then None
    else (u32_at (codes "slots") d >>= (λ slots. Some (Slots slots))))
    else (u32_at (codes "bytes") d >>= (λ bytes. Some (Bytes bytes)))

-- a request
unfoldable pub ask_call : Data → Option Call
ask_call d = do
  receiver ← u8_at (codes "receiver") d
  sid ← u16_at (codes "sid") d
  amount ← amount_of d
  heard ← u64_at (codes "heard") d
  Some (Ask receiver sid amount heard)

-- a receiver's progress
unfoldable pub heard_call : Data → Option Call
heard_call d = do
  receiver ← u8_at (codes "receiver") d
  upto ← u64_at (codes "upto") d
  Some (Heard receiver upto)

-- a build
unfoldable pub build_call : Data → Option Call
build_call d = do
  now ← u64_at (codes "now") d
  Some (Build now)

-- a skip
unfoldable pub skip_call : Data → Option Call
skip_call d = do
  now ← u64_at (codes "now") d
  Some (Skip now)

-- a question for a flow's bytes
unfoldable pub status_call : Data → Option Call
status_call d = do
  sid ← u16_at (codes "sid") d
  Some (Status sid)

-- the words of what an opportunity to a SID is used for
abbrev pub usage_to : List ℕ → ℕ → Option Usage
usage_to usage sid =
    if bytes_eq usage (codes "initial_to") then Some (InitialTo sid)
    else (if bytes_eq usage (codes "station") then Some (Station sid)
    else (if bytes_eq usage (codes "request") then Some (Request sid)
    else (if bytes_eq usage (codes "data") then Some (DataTo sid) else None)))

-- what an opportunity is used for: a SID stands beside each but initial and quiet
unfoldable pub usage_of : Data → Option Usage
usage_of d = do
  usage ← text_at (codes "usage") d
  if bytes_eq usage (codes "initial") then Some Initial
      else (if bytes_eq usage (codes "quiet") then Some Quiet
      else (u16_at (codes "sid") d >>= usage_to usage))

-- a Reserve
unfoldable pub reserve_call : Data → Option Call
reserve_call d = do
  usage ← usage_of d
  slots ← u32_at (codes "slots") d
  Some (Reserve usage slots)

-- a header
unfoldable pub header_call : Data → Option Call
header_call d = do
  count ← u8_at (codes "ucd_count") d
  ranging_start ← u8_at (codes "ranging_start") d
  ranging_end ← u8_at (codes "ranging_end") d
  data_start ← u8_at (codes "data_start") d
  data_end ← u8_at (codes "data_end") d
  Some (Header (record {
    ucd_count = count;
    ranging_start = ranging_start;
    ranging_end = ranging_end;
    data_start = data_start;
    data_end = data_end;
  }))

-- a request that supersedes those before
unfoldable pub replace_call : Data → Option Call
replace_call d = do
  receiver ← u8_at (codes "receiver") d
  sid ← u16_at (codes "sid") d
  amount ← amount_of d
  heard ← u64_at (codes "heard") d
  Some (Replace receiver sid amount heard)

-- a change of a flow's parameters
unfoldable pub change_call : Data → Option Call
change_call d = do
  sid ← u16_at (codes "sid") d
  found ← get (codes "flow") d
  flow ← flow_of found
  Some (Change sid flow)

-- a flow's rest
unfoldable pub rest_call : Data → Option Call
rest_call d = do
  sid ← u16_at (codes "sid") d
  Some (Rest sid)

-- the end of a rest
unfoldable pub wake_call : Data → Option Call
wake_call d = do
  sid ← u16_at (codes "sid") d
  Some (Wake sid)

-- the call that an object stands for, by its name
unfoldable pub call_of : Data → Option Call
call_of d = do
  name ← text_at (codes "call") d
  if bytes_eq name (codes "admit") then admit_call d
      else (if bytes_eq name (codes "remove") then remove_call d
      else (if bytes_eq name (codes "ask") then ask_call d
      else (if bytes_eq name (codes "heard") then heard_call d
      else (if bytes_eq name (codes "build") then build_call d
      else (if bytes_eq name (codes "skip") then skip_call d
      else (if bytes_eq name (codes "status") then status_call d
      else (if bytes_eq name (codes "reserve") then reserve_call d
      else (if bytes_eq name (codes "header") then header_call d
      else (if bytes_eq name (codes "replace") then replace_call d
      else (if bytes_eq name (codes "change") then change_call d
      else (if bytes_eq name (codes "rest") then rest_call d
      else (if bytes_eq name (codes "wake") then wake_call d
      else None))))))))))))

-- the value stands for the call, and no configuration stands beside its members
abbrev pub StandsAlone : Data → Call → Type 0
StandsAlone d call = (call_of d ≡ Some call) × (get (codes "config") d ≡ None)
