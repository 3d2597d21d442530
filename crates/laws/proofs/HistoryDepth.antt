-- The JSON value of a history nests no deeper than five levels.
use Rattle.std.proofs.Common.{ℕ, ◌≤◌, List, [], ◌∷◌, map, Option, Some, None, arith}
use Rattle.serde_json.specs.Data.{depth, items_depth}
use Rattle.serde_json.specs.View.{items_of}
use Rattle.minislots.specs.declared.config.Config.{Config}
use Rattle.sched_calls.specs.declared.amount.Amount.TheVariants.{Bytes, Slots}
use Rattle.sched_calls.specs.declared.call.Call.{Call}
use Rattle.sched_calls.specs.declared.opportunity.Usage.TheVariants.{Initial, InitialTo, Station}
use Rattle.sched_calls.specs.declared.opportunity.Usage.TheVariants.{Request, Quiet, DataTo}
use Rattle.sched_calls.specs.declared.call.Call.TheVariants.{Admit, Remove, Ask, Heard, Build, Skip, Status}
use Rattle.sched_calls.specs.declared.call.Call.TheVariants.{Reserve, Header, Replace, Change, Rest, Wake}
use Rattle.sched_calls.specs.declared.reply.Reply.{Reply}
use Rattle.sched_calls.specs.declared.reply.Reply.TheVariants.{Admitted, Removed, Taken, Noted, Built, Skipped, Flow}
use Rattle.sched_calls.specs.declared.reply.Reply.TheVariants.{Refused, Reserved, Changed}
use Rattle.sched_calls.specs.declared.reply.Entry.{Entry}
use Rattle.history_writing.specs.Json.{call_data, plain_data, placed_data, map_data}
use Rattle.history_writing.specs.Json.{refused_data}
use Rattle.history_writing.specs.Json.{reply_data}
use Rattle.sched_lines.specs.Line.{refusal_number, refusal_value}
use Rattle.history_writing.specs.HistoryText.{entry_data}
use Rattle.history_writing.specs.HistoryText.{entries_data, history_data}
use Rattle.state_text.proofs.FlowText.{depth-counts, depth-flow}
use Rattle.segment_line.proofs.ConfigDepth.{depth-config}

depth-call : (call : Call) → depth (call_data call) ≤ 2
unfolding call_data
depth-call (Admit sid spec) = let e = depth-flow spec in omega (arith, e)
depth-call (Remove sid) = omega arith
depth-call (Ask receiver sid (Bytes bytes) heard) = omega arith
depth-call (Ask receiver sid (Slots slots) heard) = omega arith
depth-call (Heard receiver upto) = omega arith
depth-call (Build now) = omega arith
depth-call (Skip now) = omega arith
depth-call (Status sid) = omega arith
depth-call (Reserve Initial slots) = omega arith
depth-call (Reserve (InitialTo sid) slots) = omega arith
depth-call (Reserve (Station sid) slots) = omega arith
depth-call (Reserve (Request sid) slots) = omega arith
depth-call (Reserve Quiet slots) = omega arith
depth-call (Reserve (DataTo sid) slots) = omega arith
depth-call (Header header) = omega arith
depth-call (Replace receiver sid (Bytes bytes) heard) = omega arith
depth-call (Replace receiver sid (Slots slots) heard) = omega arith
depth-call (Change sid spec) = let e = depth-flow spec in omega (arith, e)
depth-call (Rest sid) = omega arith
depth-call (Wake sid) = omega arith

depth-refused : (n : ℕ) (value : Option ℕ) → depth (refused_data n value) ≤ 2
unfolding refused_data
depth-refused n None = omega arith
depth-refused n (Some slot) = omega arith

depth-reply : (reply : Reply) → depth (reply_data reply) ≤ 2
unfolding reply_data plain_data placed_data map_data
depth-reply (Admitted None) = omega arith
depth-reply (Admitted (Some p)) = let e = depth-counts p.starts in omega (arith, e)
depth-reply (Changed None) = omega arith
depth-reply (Changed (Some p)) = let e = depth-counts p.starts in omega (arith, e)
depth-reply Removed = omega arith
depth-reply Taken = omega arith
depth-reply Noted = omega arith
depth-reply Reserved = omega arith
depth-reply (Built m) = let e = depth-counts m.bytes in omega (arith, e)
depth-reply (Skipped next) = omega arith
depth-reply (Flow asked granted outstanding) = omega arith
depth-reply (Refused refusal) = depth-refused (refusal_number refusal) (refusal_value refusal)

-- an entry nests no deeper than three levels
pub depth-entry : (e : Entry) → depth (entry_data e) ≤ 3
unfolding entry_data
depth-entry e =
    let call = depth-call e.call in
    let reply = depth-reply e.reply in
    omega (arith, call, reply)

depth-entries : (es : List Entry) → items_depth (items_of (map entry_data es)) ≤ 3
depth-entries [] = omega arith
depth-entries (e ∷ es) =
    let entry = depth-entry e in
    let rest = depth-entries es in
    omega (arith, entry, rest)

-- a history nests no deeper than five levels
pub depth-history : (c : Config) (es : List Entry) → depth (history_data c es) ≤ 5
unfolding history_data entries_data
depth-history c es =
    let config = depth-config c in
    let entries = depth-entries es in
    omega (arith, config, entries)
