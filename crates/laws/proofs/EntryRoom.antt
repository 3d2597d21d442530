-- How many bytes the line of an entry has at most.
use Rattle.std.proofs.Common.{ℕ, ◌≤◌, List, length, map, Option, None, Some, arith}
use Rattle.std.specs.Prelude.{codes}
use Rattle.hex.specs.Hex.{encode_lower, lower_digits}
use Rattle.hex.proofs.HexLemmas.{length-encode_with}
use Rattle.map_codec.specs.WireMap.{spelling}
use Rattle.map_codec.proofs.Spelling.{length-spelling}
use Rattle.sched_calls.specs.declared.amount.Amount.TheVariants.{Bytes, Slots}
use Rattle.sched_calls.specs.declared.frame_map.FrameMap.{FrameMap}
use Rattle.sched_calls.specs.declared.opportunity.Usage.TheVariants.{Initial, InitialTo, Station}
use Rattle.sched_calls.specs.declared.opportunity.Usage.TheVariants.{Request, Quiet, DataTo}
use Rattle.sched_calls.specs.declared.call.Call.{Call}
use Rattle.sched_calls.specs.declared.call.Call.TheVariants.{Admit, Remove, Ask, Heard, Build, Skip, Status}
use Rattle.sched_calls.specs.declared.call.Call.TheVariants.{Reserve, Header, Replace, Change, Rest, Wake}
use Rattle.sched_calls.specs.declared.reply.Reply.{Reply}
use Rattle.sched_calls.specs.declared.reply.Reply.TheVariants.{Admitted, Removed, Taken, Noted, Built, Skipped, Flow}
use Rattle.sched_calls.specs.declared.reply.Reply.TheVariants.{Reserved, Refused, Changed}
use Rattle.sched_calls.specs.declared.reply.Entry.{Entry}
use Rattle.sched_lines.specs.Line.{refusal_number, refusal_value}
use Rattle.history_writing.specs.Json.{call_data, plain_data, placed_data, map_data}
use Rattle.history_writing.specs.Json.{refused_data, reply_data}
use Rattle.history_writing.specs.HistoryText.{entry_data}
use Rattle.segment_line.proofs.TextRoom.{room, quoted_room-most}
use Rattle.segment_line.proofs.ConfigRoom.{room-counts, room-flow}

-- a placement has at most 512 starts, and a MAP at most 240 elements, with a byte count for each
abbrev pub IsShort : Reply → Type 0
IsShort (Admitted (Some p)) = length p.starts ≤ 512
IsShort (Changed (Some p)) = length p.starts ≤ 512
IsShort (Built m) = (length m.bytes ≤ 240) × (length m.wire.elements ≤ 240)
IsShort reply = Unit {0}

room-call : (call : Call) → room (call_data call) ≤ 1000
unfolding call_data
room-call (Admit sid spec) = omega (arith, room-flow spec)
room-call (Remove sid) = omega arith
room-call (Ask receiver sid (Bytes bytes) heard) = omega arith
room-call (Ask receiver sid (Slots slots) heard) = omega arith
room-call (Heard receiver upto) = omega arith
room-call (Build now) = omega arith
room-call (Skip now) = omega arith
room-call (Status sid) = omega arith
room-call (Reserve Initial slots) = omega arith
room-call (Reserve (InitialTo sid) slots) = omega arith
room-call (Reserve (Station sid) slots) = omega arith
room-call (Reserve (Request sid) slots) = omega arith
room-call (Reserve Quiet slots) = omega arith
room-call (Reserve (DataTo sid) slots) = omega arith
room-call (Header header) = omega arith
room-call (Replace receiver sid (Bytes bytes) heard) = omega arith
room-call (Replace receiver sid (Slots slots) heard) = omega arith
room-call (Change sid spec) = omega (arith, room-flow spec)
room-call (Rest sid) = omega arith
room-call (Wake sid) = omega arith

room-map : (kind : List ℕ) (m : FrameMap) → length kind ≤ 7 → length m.bytes ≤ 240 → length m.wire.elements ≤ 240
    → room (map_data kind m) ≤ 20000
unfolding map_data
room-map kind m name bytes elements = omega (
  arith,
  room-counts m.bytes,
  quoted_room-most kind,
  quoted_room-most (encode_lower (spelling m.wire)),
  length-encode_with lower_digits (spelling m.wire),
  length-spelling m.wire,
)

room-refusal : (n : ℕ) (value : Option ℕ) → room (refused_data n value) ≤ 500
unfolding refused_data
room-refusal n None = omega arith
room-refusal n (Some value) = omega arith

room-reply : (reply : Reply) → IsShort reply → room (reply_data reply) ≤ 20000
unfolding reply_data plain_data placed_data
room-reply (Admitted None) short = omega arith
room-reply (Admitted (Some p)) short = omega (arith, room-counts p.starts, short)
room-reply (Changed None) short = omega arith
room-reply (Changed (Some p)) short = omega (arith, room-counts p.starts, short)
room-reply Removed short = omega arith
room-reply Taken short = omega arith
room-reply Noted short = omega arith
room-reply Reserved short = omega arith
room-reply (Built m) short = room-map (codes "map") m (omega arith) short.0 short.1
room-reply (Skipped next) short = omega arith
room-reply (Flow asked granted outstanding) short = omega arith
room-reply (Refused refusal) short =
    let small = room-refusal (refusal_number refusal) (refusal_value refusal) in omega (arith, small)

-- the room for an entry
pub room-entry : (e : Entry) → IsShort e.reply → room (entry_data e) ≤ 30000
unfolding entry_data
room-entry e short =
    let call = room-call e.call in
    let reply = room-reply e.reply short in
    omega (arith, call, reply)
