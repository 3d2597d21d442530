-- Worked texts: the history of one MAP without flows, requests, and how a flow changes, rests and wakes.
use Rattle.std.proofs.Common.{◌≡◌, [], ◌∷◌, ◌++◌, codes, None, Some, refl}
use Rattle.std.specs.Fmt.{digits}
use Rattle.hex.proofs.OnLiterals.{hex_on_literals}
use Rattle.serde_json.specs.Data.{number, unsigned, string, object, no_members, member}
use Rattle.serde_json.specs.Written.{compact_text}
use Rattle.serde_json.proofs.OnLiterals.{serde_json_on_literals}
use Rattle.map_codec.specs.WireMap.{header, spelling}
use Rattle.sched_calls.proofs.Base.{base}
use Rattle.sched_calls.proofs.BaseMaps.{first_map}
use Rattle.sched_calls.specs.declared.amount.Amount.TheVariants.{Bytes, Slots}
use Rattle.sched_calls.specs.declared.spec.FlowSpec.{FlowSpec}
use Rattle.sched_calls.specs.declared.spec.FlowSpec.TheVariants.{Polled, BestEffort}
use Rattle.sched_calls.specs.declared.call.Call.TheVariants.{Ask, Build, Replace, Change, Rest, Wake}
use Rattle.sched_calls.specs.declared.reply.Refusal.TheVariants.{OtherKind, NotUnsolicited, TooShort}
use Rattle.sched_calls.specs.declared.reply.Reply.TheVariants.{Built, Changed, Refused}
use Rattle.sched_calls.specs.declared.reply.Entry.{Entry}
use Rattle.history_writing.specs.Json.{counts, flow_data, call_data, plain_data, placed_data, map_data, refused_data}
use Rattle.history_writing.specs.Json.{reply_data}
use Rattle.history_writing.specs.HistoryText.{config_data, entry_data, entries_data, history_data, history_text}

-- the MAP of the first frame, built at minislot 760
abbrev built : Entry
built = record { stamp = record { seat = 0; ticket = 0 }; call = Build 760; reply = Built first_map }

-- its text, byte for byte
pub the_text_of_one_map : history_text base (built ∷ [])
    ≡ codes "{\"config\":{\"bytes_per_slot\":16,\"calls\":1000,\"channel\":3,\"cycle\":20,\"data_end\":0," ++ (
    codes "\"data_start\":0,\"frame\":40,\"grant_cap\":2000,\"lead\":40,\"overhead\":2," ++ (
    codes "\"phy\":0,\"poll_slots\":2,\"quantum\":64,\"ranging_end\":0,\"ranging_start\":0,\"receivers\":1," ++ (
    codes "\"req_slots\":4,\"short_max\":8,\"start\":800,\"ticks\":4,\"ucd_count\":1}," ++ (
    codes "\"entries\":[{\"call\":{\"call\":\"build\",\"now\":760},\"reply\":{\"ack\":800,\"bytes\":[0," ++ (
    codes "0,0],\"hex\":\"03010300000003200000032000000000fffc4000000180040001c028\",\"kind\":\"map\"," ++
    codes "\"start\":800},\"seat\":0,\"ticket\":0}]}\n")))))
unfolding history_text history_data entries_data entry_data config_data call_data reply_data map_data counts header
    spelling digits serde_json_on_literals hex_on_literals
the_text_of_one_map = refl

-- a request is written with the key that it had
pub a_request_for_bytes : compact_text (call_data (Ask 1 17 (Bytes 100) 801))
    ≡ codes "{\"bytes\":100,\"call\":\"ask\",\"heard\":801,\"receiver\":1,\"sid\":17}"
unfolding call_data digits serde_json_on_literals
a_request_for_bytes = refl

pub a_request_in_minislots : compact_text (call_data (Ask 1 17 (Slots 100) 801))
    ≡ codes "{\"call\":\"ask\",\"heard\":801,\"receiver\":1,\"sid\":17,\"slots\":100}"
unfolding call_data digits serde_json_on_literals
a_request_in_minislots = refl

-- and so is one that supersedes those before
pub nothing_left : compact_text (call_data (Replace 1 17 (Bytes 0) 801))
    ≡ codes "{\"bytes\":0,\"call\":\"replace\",\"heard\":801,\"receiver\":1,\"sid\":17}"
unfolding call_data digits serde_json_on_literals
nothing_left = refl

pub minislots_left : compact_text (call_data (Replace 1 17 (Slots 100) 801))
    ≡ codes "{\"call\":\"replace\",\"heard\":801,\"receiver\":1,\"sid\":17,\"slots\":100}"
unfolding call_data digits serde_json_on_literals
minislots_left = refl

-- a change has its parameters where an admission has them
pub a_change : (spec : FlowSpec) → call_data (Change 17 spec) ≡ object (
    member (codes "call") (string (codes "change")) (member (codes "flow") (flow_data spec) (
    member (codes "sid") (number (unsigned 17)) no_members)))
unfolding call_data
a_change spec = refl

-- a peak rate stands behind the burst where it is a ceiling, and nothing is said of one that is none
pub a_polled_flow_with_a_peak : compact_text (flow_data (Polled 20000 2000 64000 1600 4294967295))
    ≡ codes "{\"burst\":1600,\"interval_us\":20000,\"jitter_us\":2000,\"kind\":\"polled\"," ++
    codes "\"peak\":4294967295,\"rate\":64000}"
unfolding flow_data digits serde_json_on_literals
a_polled_flow_with_a_peak = refl

pub a_polled_flow_without_a_peak : compact_text (flow_data (Polled 20000 2000 64000 1600 0))
    ≡ codes "{\"burst\":1600,\"interval_us\":20000,\"jitter_us\":2000,\"kind\":\"polled\"," ++
    codes "\"rate\":64000}"
unfolding flow_data digits serde_json_on_literals
a_polled_flow_without_a_peak = refl

pub a_flow_of_best_effort_with_a_peak : compact_text (flow_data (BestEffort 7 0 0 1 0 0))
    ≡ codes "{\"burst\":0,\"kind\":\"best_effort\",\"peak\":1,\"priority\":7,\"rate\":0}"
unfolding flow_data digits serde_json_on_literals
a_flow_of_best_effort_with_a_peak = refl

pub a_flow_of_best_effort_without_a_peak : compact_text (flow_data (BestEffort 7 0 0 0 0 0))
    ≡ codes "{\"burst\":0,\"kind\":\"best_effort\",\"priority\":7,\"rate\":0}"
unfolding flow_data digits serde_json_on_literals
a_flow_of_best_effort_without_a_peak = refl

-- a reserved rate and its burst stand behind the rate, each where it is above 0
pub a_flow_of_best_effort_with_a_reserved_rate : compact_text (flow_data (BestEffort 7 0 0 0 64000 64))
    ≡ codes "{\"burst\":0,\"kind\":\"best_effort\",\"priority\":7,\"rate\":0," ++
    codes "\"reserved\":64000,\"reserved_burst\":64}"
unfolding flow_data digits serde_json_on_literals
a_flow_of_best_effort_with_a_reserved_rate = refl

pub a_flow_of_best_effort_with_a_reserved_burst_alone : compact_text (flow_data (BestEffort 7 0 0 0 0 1))
    ≡ codes "{\"burst\":0,\"kind\":\"best_effort\",\"priority\":7,\"rate\":0,\"reserved_burst\":1}"
unfolding flow_data digits serde_json_on_literals
a_flow_of_best_effort_with_a_reserved_burst_alone = refl

pub a_flow_of_best_effort_with_a_peak_and_a_reserved_rate : compact_text (flow_data (BestEffort 7 0 0 1 4294967295 0))
    ≡ codes "{\"burst\":0,\"kind\":\"best_effort\",\"peak\":1,\"priority\":7,\"rate\":0," ++
    codes "\"reserved\":4294967295}"
unfolding flow_data digits serde_json_on_literals
a_flow_of_best_effort_with_a_peak_and_a_reserved_rate = refl

-- a rest and a wake
pub a_rest : compact_text (call_data (Rest 5)) ≡ codes "{\"call\":\"rest\",\"sid\":5}"
unfolding call_data digits serde_json_on_literals
a_rest = refl

pub a_wake : compact_text (call_data (Wake 5)) ≡ codes "{\"call\":\"wake\",\"sid\":5}"
unfolding call_data digits serde_json_on_literals
a_wake = refl

-- the reply to a change, without and with a place
pub changed : compact_text (reply_data (Changed None)) ≡ codes "{\"kind\":\"changed\"}"
unfolding reply_data plain_data serde_json_on_literals
changed = refl

pub changed_with_a_place : compact_text (reply_data (Changed (Some (record { reference = 844; starts = 4 ∷ 19 ∷ [] }))))
    ≡ codes "{\"kind\":\"changed\",\"reference\":844,\"starts\":[4,19]}"
unfolding reply_data placed_data counts digits serde_json_on_literals
changed_with_a_place = refl

-- the refusals of these calls
pub refused_another_kind : compact_text (reply_data (Refused OtherKind))
    ≡ codes "{\"kind\":\"refused\",\"number\":21}"
unfolding reply_data refused_data digits serde_json_on_literals
refused_another_kind = refl

pub refused_another_flow : compact_text (reply_data (Refused NotUnsolicited))
    ≡ codes "{\"kind\":\"refused\",\"number\":22}"
unfolding reply_data refused_data digits serde_json_on_literals
refused_another_flow = refl

pub refused_a_short_grant : compact_text (reply_data (Refused TooShort))
    ≡ codes "{\"kind\":\"refused\",\"number\":23}"
unfolding reply_data refused_data digits serde_json_on_literals
refused_a_short_grant = refl
