-- The history that stands in the JSON value of a history is that history.
use Rattle.std.proofs.Common.{◌≡◌, ℕ, ◌+◌, ◌<◌, ◌^◌, List, [], ◌∷◌, map, Option, Some, None, Ok, refl}
use Rattle.std.proofs.Common.{◌∙◌}
use Rattle.std.specs.Prelude.{codes}
use Rattle.std.specs.List.{AllByRecursion}
use Rattle.hex.proofs.HexLemmas.{decode_of-encode_lower}
use Rattle.serde_json.specs.View.{items_of}
use Rattle.map_codec.specs.WireMap.{spelling}
use Rattle.sched_calls.specs.declared.frame_map.FrameMap.{FrameMap}
use Rattle.minislots.specs.declared.config.Config.{Config}
use Rattle.sched_calls.specs.declared.reply.Reply.{Reply}
use Rattle.sched_calls.specs.declared.reply.Reply.TheVariants.{Admitted, Removed, Taken, Noted, Built, Skipped, Flow}
use Rattle.sched_calls.specs.declared.reply.Reply.TheVariants.{Refused, Reserved, Changed}
use Rattle.sched_calls.specs.declared.reply.Refusal.{Refusal}
use Rattle.sched_calls.specs.declared.reply.Entry.{Entry}
use Rattle.json_fields.specs.Fields.{u32_at, u64_at, number_at, text_at}
use Rattle.history_writing.specs.Json.{count, counts, plain_data, placed_data, map_data, refused_data, reply_data}
use Rattle.sched_lines.specs.Line.{refusal_number, refusal_value}
use Rattle.history_writing.specs.HistoryText.{entry_data, entries_data, history_data}
use Rattle.history_reading.specs.Refusals.{refusal_with}
use Rattle.history_reading.specs.Replies.{number_below, numbers_of, numbers_at, placement_of, place_of, admitted_reply}
use Rattle.history_reading.specs.Replies.{changed_reply, map_at, map_reply, skipped_reply, flow_reply, u64_if}
use Rattle.history_reading.specs.Replies.{refused_reply, reply_of, entry_of}
use Rattle.history_reading.specs.Recorded.{entries_of, history_of}
use Rattle.history_writing.specs.Fits.{ConfigFits, MapFits, ValueFits, ReplyFits, EntryFits}
use Rattle.state_text.proofs.FlowText.{below-fits}
use Rattle.segment_line.proofs.ConfigBack.{config_of-data}
use Rattle.laws.proofs.ReadBack.{call_of-data}
use Rattle.history_reading.proofs.Payload.{map_of-spelling}
use Rattle.laws.proofs.Spelled.{IsBytes-spelling}
use Rattle.laws.proofs.RefusalNumbers.{refusal_with-number, number_fits}

-- whole numbers that fit are read again
numbers_of-counts : (limit : ℕ) (ns : List ℕ) → AllByRecursion (λ n. n < limit) ns
    → numbers_of limit (items_of (map count ns)) ≡ Some ns
unfolding numbers_of number_below
numbers_of-counts limit [] fits = refl
numbers_of-counts limit (n ∷ ns) fits =
    rw (below-fits limit n fits.0) (rw (numbers_of-counts limit ns fits.1) refl)

-- a MAP is read again
map_reply-data : (m : FrameMap) → MapFits m → map_reply (map_data (codes "map") m) ≡ Some (Built m)
unfolding map_reply map_at numbers_at u64_at number_at text_at map_data counts
map_reply-data m fits =
    let bytes = spelling m.wire in
    rw (below-fits (2 ^ 64) m.start fits.start) (rw (below-fits (2 ^ 64) m.ack fits.ack) (
    rw (decode_of-encode_lower bytes (IsBytes-spelling m.wire fits.formed)) (
    rw (map_of-spelling m.wire fits.formed) (
    rw (numbers_of-counts (2 ^ 32) m.bytes fits.bytes) refl))))

-- a refusal is read again
refused_reply-data : (n : ℕ) (value : Option ℕ) (refusal : Refusal) → n < 2 ^ 64 → ValueFits value
    → refusal_with n value ≡ Some refusal → refused_reply (refused_data n value) ≡ Some (Refused refusal)
unfolding refused_reply u64_if u64_at number_at refused_data
refused_reply-data n None refusal fits value is = rw (below-fits (2 ^ 64) n fits) (rw is refl)
refused_reply-data n (Some slot) refusal fits value is =
    rw (below-fits (2 ^ 64) n fits) (rw (below-fits (2 ^ 64) slot value) (rw is refl))

-- what stands under the kind of a refusal
refused_kind : (n : ℕ) (value : Option ℕ) → reply_of (refused_data n value) ≡ refused_reply (refused_data n value)
unfolding reply_of text_at refused_data
refused_kind n None = refl
refused_kind n (Some slot) = refl

-- a reply is read again
reply_of-data : (reply : Reply) → ReplyFits reply → reply_of (reply_data reply) ≡ Some reply
unfolding reply_of placement_of place_of admitted_reply changed_reply skipped_reply flow_reply numbers_at u64_at
    number_at text_at reply_data plain_data placed_data map_data counts
reply_of-data (Admitted None) fits = refl
reply_of-data (Admitted (Some p)) fits =
    rw (below-fits (2 ^ 64) p.reference fits.0) (rw (numbers_of-counts (2 ^ 16) p.starts fits.1) refl)
reply_of-data (Changed None) fits = refl
reply_of-data (Changed (Some p)) fits =
    rw (below-fits (2 ^ 64) p.reference fits.0) (rw (numbers_of-counts (2 ^ 16) p.starts fits.1) refl)
reply_of-data Removed fits = refl
reply_of-data Taken fits = refl
reply_of-data Noted fits = refl
reply_of-data Reserved fits = refl
reply_of-data (Built m) fits = map_reply-data m fits
reply_of-data (Skipped next) fits = rw (below-fits (2 ^ 64) next fits) refl
reply_of-data (Flow asked granted outstanding) fits =
    rw (below-fits (2 ^ 64) asked fits.0) (rw (below-fits (2 ^ 64) granted fits.1) (
    rw (below-fits (2 ^ 64) outstanding fits.2) refl))
reply_of-data (Refused refusal) fits =
    refused_kind (refusal_number refusal) (refusal_value refusal)
    ∙ refused_reply-data (refusal_number refusal) (refusal_value refusal) refusal (number_fits refusal) fits
    (refusal_with-number refusal)

-- an entry is read again
pub entry_of-data : (e : Entry) → EntryFits e → entry_of (entry_data e) ≡ Some e
unfolding entry_of u32_at u64_at number_at entry_data
entry_of-data e fits =
    rw (below-fits (2 ^ 32) e.stamp.seat fits.seat) (rw (below-fits (2 ^ 64) e.stamp.ticket fits.ticket) (
    rw (call_of-data e.call fits.call) (rw (reply_of-data e.reply fits.reply) refl)))

-- entries are read again, from any number on
entries_of-data : (n : ℕ) (es : List Entry) → AllByRecursion EntryFits es
    → entries_of n (items_of (map entry_data es)) ≡ Ok es
unfolding entries_of
entries_of-data n [] fits = refl
entries_of-data n (e ∷ es) fits = rw (entry_of-data e fits.0) (rw (entries_of-data (n + 1) es fits.1) refl)

-- a history is read again
pub history_of-data : (c : Config) (es : List Entry) → ConfigFits c → AllByRecursion EntryFits es
    → history_of (history_data c es) ≡ Ok (record { config = c; entries = es })
unfolding history_of history_data entries_data
history_of-data c es config_fits entries_fit = rw (config_of-data c config_fits)
    (rw (entries_of-data 1 es entries_fit) refl)
