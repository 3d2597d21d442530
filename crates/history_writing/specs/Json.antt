-- The JSON values that a flow, a call and a reply stand for in the text of a history: members in ascending order of
-- their keys.
use Rattle.std.specs.Prelude.{ℕ, ◌==◌, if◌then◌else◌, List, map, codes, Option, None, Some}
use Rattle.hex.specs.Hex.{encode_lower}
use Rattle.serde_json.specs.Data.{Data, Members, number, unsigned, string, array, object, no_members, member}
use Rattle.serde_json.specs.View.{items_of}
use Rattle.map_codec.specs.WireMap.{spelling}
use Rattle.sched_calls.specs.declared.amount.Amount.{Amount}
use Rattle.sched_calls.specs.declared.amount.Amount.TheVariants.{Bytes, Slots}
use Rattle.sched_calls.specs.declared.spec.FlowSpec.{FlowSpec}
use Rattle.sched_calls.specs.declared.spec.FlowSpec.TheVariants.{Unsolicited, Polled, BestEffort}
use Rattle.sched_calls.specs.declared.placement.Placement.{Placement}
use Rattle.sched_calls.specs.declared.frame_map.FrameMap.{FrameMap}
use Rattle.sched_calls.specs.declared.opportunity.Usage.TheVariants.{Initial, InitialTo, Station}
use Rattle.sched_calls.specs.declared.opportunity.Usage.TheVariants.{Request, Quiet, DataTo}
use Rattle.sched_calls.specs.declared.call.Call.{Call}
use Rattle.sched_calls.specs.declared.call.Call.TheVariants.{Admit, Remove, Ask, Heard, Build, Skip, Status}
use Rattle.sched_calls.specs.declared.call.Call.TheVariants.{Reserve, Header, Replace, Change, Rest, Wake}
use Rattle.sched_calls.specs.declared.reply.Reply.{Reply}
use Rattle.sched_calls.specs.declared.reply.Reply.TheVariants.{Admitted, Removed, Taken, Noted, Built, Skipped, Flow}
use Rattle.sched_calls.specs.declared.reply.Reply.TheVariants.{Reserved, Refused, Changed}
use Rattle.sched_lines.specs.Line.{refusal_number, refusal_value}

-- a whole number
abbrev pub count : ℕ → Data
count n = number (unsigned n)

-- an array of whole numbers
unfoldable pub counts : List ℕ → Data
counts ns = array (items_of (map count ns))

-- a number that stands only where it is another than the one of a missing member, and others behind it
abbrev pub optional_member : ℕ → List ℕ → ℕ → Members → Members
optional_member missing key n behind = if n == missing then behind else member key (count n) behind

-- a flow, by its kind: a peak rate stands only where it is a ceiling, and a reserved rate and its burst each only where
-- it is above 0
unfoldable pub flow_data : FlowSpec → Data
flow_data (Unsolicited size interval jitter grants) = object (
    member (codes "grants") (count grants) (member (codes "interval_us") (count interval) (
    member (codes "jitter_us") (count jitter) (member (codes "kind") (string (codes "unsolicited")) (
    member (codes "size") (count size) no_members)))))
flow_data (Polled interval jitter rate burst peak) = object (
    member (codes "burst") (count burst) (member (codes "interval_us") (count interval) (
    member (codes "jitter_us") (count jitter) (member (codes "kind") (string (codes "polled")) (
    optional_member 0 (codes "peak") peak (member (codes "rate") (count rate) no_members))))))
flow_data (BestEffort priority rate burst peak reserved reserved-burst) = object (
    member (codes "burst") (count burst) (member (codes "kind") (string (codes "best_effort")) (
    optional_member 0 (codes "peak") peak (
    member (codes "priority") (count priority) (member (codes "rate") (count rate) (
    optional_member 0 (codes "reserved") reserved (
    optional_member 0 (codes "reserved_burst") reserved-burst no_members)))))))

-- a request of this name, with its bytes or with the minislots that it has in their place
abbrev pub request_data : List ℕ → ℕ → ℕ → Amount → ℕ → Data
request_data name receiver sid (Bytes bytes) heard = object (
    member (codes "bytes") (count bytes) (member (codes "call") (string name) (
    member (codes "heard") (count heard) (member (codes "receiver") (count receiver) (
    member (codes "sid") (count sid) no_members)))))
request_data name receiver sid (Slots slots) heard = object (
    member (codes "call") (string name) (member (codes "heard") (count heard) (
    member (codes "receiver") (count receiver) (member (codes "sid") (count sid) (
    member (codes "slots") (count slots) no_members)))))

-- a call of this name with the parameters of a flow
abbrev pub parameters_data : List ℕ → ℕ → FlowSpec → Data
parameters_data name sid spec = object (
    member (codes "call") (string name) (member (codes "flow") (flow_data spec) (
    member (codes "sid") (count sid) no_members)))

-- a Reserve of this usage that no SID stands beside
abbrev pub reserve_for : List ℕ → ℕ → Data
reserve_for usage slots = object (
    member (codes "call") (string (codes "reserve")) (member (codes "slots") (count slots) (
    member (codes "usage") (string usage) no_members)))

-- a Reserve of this usage with its SID
abbrev pub reserve_to : List ℕ → ℕ → ℕ → Data
reserve_to usage sid slots = object (
    member (codes "call") (string (codes "reserve")) (member (codes "sid") (count sid) (
    member (codes "slots") (count slots) (member (codes "usage") (string usage) no_members))))

-- a call, by its name
unfoldable pub call_data : Call → Data
call_data (Admit sid spec) = parameters_data (codes "admit") sid spec
call_data (Remove sid) = object (member (codes "call") (string (codes "remove"))
    (member (codes "sid") (count sid) no_members))
call_data (Ask receiver sid amount heard) = request_data (codes "ask") receiver sid amount heard
call_data (Heard receiver upto) = object (
    member (codes "call") (string (codes "heard")) (member (codes "receiver") (count receiver) (
    member (codes "upto") (count upto) no_members)))
call_data (Build now) = object (member (codes "call") (string (codes "build"))
    (member (codes "now") (count now) no_members))
call_data (Skip now) = object (member (codes "call") (string (codes "skip"))
    (member (codes "now") (count now) no_members))
call_data (Status sid) = object (member (codes "call") (string (codes "status"))
    (member (codes "sid") (count sid) no_members))
call_data (Reserve Initial slots) = reserve_for (codes "initial") slots
call_data (Reserve (InitialTo sid) slots) = reserve_to (codes "initial_to") sid slots
call_data (Reserve (Station sid) slots) = reserve_to (codes "station") sid slots
call_data (Reserve (Request sid) slots) = reserve_to (codes "request") sid slots
call_data (Reserve Quiet slots) = reserve_for (codes "quiet") slots
call_data (Reserve (DataTo sid) slots) = reserve_to (codes "data") sid slots
call_data (Header header) = object (
    member (codes "call") (string (codes "header")) (member (codes "data_end") (count header.data_end) (
    member (codes "data_start") (count header.data_start) (
    member (codes "ranging_end") (count header.ranging_end) (
    member (codes "ranging_start") (count header.ranging_start) (
    member (codes "ucd_count") (count header.ucd_count) no_members))))))
call_data (Replace receiver sid amount heard) = request_data (codes "replace") receiver sid amount heard
call_data (Change sid spec) = parameters_data (codes "change") sid spec
call_data (Rest sid) = object (member (codes "call") (string (codes "rest"))
    (member (codes "sid") (count sid) no_members))
call_data (Wake sid) = object (member (codes "call") (string (codes "wake"))
    (member (codes "sid") (count sid) no_members))

-- a reply of this kind that says nothing more
unfoldable pub plain_data : List ℕ → Data
plain_data kind = object (member (codes "kind") (string kind) no_members)

-- the place of a flow, in a reply of this kind
unfoldable pub placed_data : List ℕ → Placement → Data
placed_data kind p = object (
    member (codes "kind") (string kind) (member (codes "reference") (count p.reference) (
    member (codes "starts") (counts p.starts) no_members)))

-- a MAP, in a reply of this kind
unfoldable pub map_data : List ℕ → FrameMap → Data
map_data kind m = object (
    member (codes "ack") (count m.ack) (member (codes "bytes") (counts m.bytes) (
    member (codes "hex") (string (encode_lower (spelling m.wire))) (member (codes "kind") (string kind) (
    member (codes "start") (count m.start) no_members)))))

-- a refusal's number, and its value where it has one
unfoldable pub refused_data : ℕ → Option ℕ → Data
refused_data n None = object (member (codes "kind") (string (codes "refused"))
    (member (codes "number") (count n) no_members))
refused_data n (Some value) = object (
    member (codes "kind") (string (codes "refused")) (member (codes "number") (count n) (
    member (codes "value") (count value) no_members)))

-- a reply, by its kind
unfoldable pub reply_data : Reply → Data
reply_data (Admitted None) = plain_data (codes "admitted")
reply_data (Admitted (Some p)) = placed_data (codes "admitted") p
reply_data (Changed None) = plain_data (codes "changed")
reply_data (Changed (Some p)) = placed_data (codes "changed") p
reply_data Removed = plain_data (codes "removed")
reply_data Taken = plain_data (codes "taken")
reply_data Noted = plain_data (codes "noted")
reply_data Reserved = plain_data (codes "reserved")
reply_data (Built m) = map_data (codes "map") m
reply_data (Skipped next) = object (
    member (codes "kind") (string (codes "skipped")) (member (codes "next") (count next) no_members))
reply_data (Flow asked granted outstanding) = object (
    member (codes "asked") (count asked) (member (codes "granted") (count granted) (
    member (codes "kind") (string (codes "flow")) (member (codes "outstanding") (count outstanding) no_members))))
reply_data (Refused refusal) = refused_data (refusal_number refusal) (refusal_value refusal)
