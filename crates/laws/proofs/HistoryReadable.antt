-- The JSON value of a history is read again in its text: its numbers fit 64 bits, its texts are ASCII, and its keys are
-- in order.
use Rattle.std.proofs.Common.{◌≡◌, ℕ, ◌<◌, ◌^◌, List, [], ◌∷◌, map, Option, Some, None, refl}
use Rattle.std.proofs.Common.{true, nat_lt, ltb-true, arith}
use Rattle.std.specs.Prelude.{codes}
use Rattle.std.specs.List.{AllByRecursion}
use Rattle.std.specs.Str.{IsAscii}
use Rattle.std.proofs.lemmas.Bool.{and_parts}
use Rattle.std.proofs.lemmas.Str.{IsUtf8-from_ascii}
use Rattle.std.proofs.lemmas.Str.Ascii.{IsAscii-nil, IsAscii-cons}
use Rattle.hex.specs.Hex.{encode_lower, lower_digits}
use Rattle.hex.proofs.HexLemmas.{IsAscii-encode_with}
use Rattle.json.proofs.Printed.Utf8.{are_ascii}
use Rattle.serde_json.specs.View.{items_of}
use Rattle.map_codec.specs.WireMap.{spelling}
use Rattle.sched_calls.specs.declared.placement.Placement.{Placement}
use Rattle.sched_calls.specs.declared.frame_map.FrameMap.{FrameMap}
use Rattle.minislots.specs.declared.config.Config.{Config}
use Rattle.sched_calls.specs.declared.reply.Reply.{Reply}
use Rattle.sched_calls.specs.declared.reply.Reply.TheVariants.{Admitted, Removed, Taken, Noted, Built, Skipped, Flow}
use Rattle.sched_calls.specs.declared.reply.Reply.TheVariants.{Refused, Reserved, Changed}
use Rattle.sched_calls.specs.declared.reply.Entry.{Entry}
use Rattle.history_writing.specs.Json.{counts, plain_data, placed_data, map_data, refused_data}
use Rattle.history_writing.specs.Json.{reply_data}
use Rattle.sched_lines.specs.Line.{refusal_number, refusal_value}
use Rattle.history_writing.specs.HistoryText.{entry_data, entries_data, history_data}
use Rattle.history_writing.specs.Fits.{ConfigFits, PlacementFits, MapFits, ValueFits, ReplyFits, EntryFits}
use Rattle.state_text.proofs.Readable.{IsReadable, AreReadable}
use Rattle.laws.proofs.RefusalNumbers.{number_fits}
use Rattle.state_text.proofs.FlowText.{of_word, name, counts_readable}
use Rattle.laws.proofs.CallReadable.{call_readable}
use Rattle.segment_line.proofs.ConfigReadable.{config_readable}

-- digits in lower case are ASCII
ascii_of : (s : List ℕ) → are_ascii s ≡ true → IsAscii s
ascii_of [] small = IsAscii-nil
ascii_of (x ∷ xs) small =
    let parts = and_parts (nat_lt x 128) (are_ascii xs) small in
    IsAscii-cons x xs (ltb-true x 128 parts.0) (ascii_of xs parts.1)

are_digits : IsAscii lower_digits
are_digits = ascii_of lower_digits refl

map_readable : (m : FrameMap) → MapFits m → IsReadable (map_data (codes "map") m)
unfolding map_data counts
map_readable m fits =
    let hex = encode_lower (spelling m.wire) in (
      refl,
      (
        refl,
        fits.ack,
        (
          refl,
          counts_readable (2 ^ 32) m.bytes (omega arith) fits.bytes,
          (
            refl,
            IsUtf8-from_ascii hex (IsAscii-encode_with lower_digits (spelling m.wire) are_digits),
            (refl, name (codes "map") refl, (refl, fits.start, tt)),
          ),
        ),
      ),
    )

refused_readable : (n : ℕ) (value : Option ℕ) → n < 2 ^ 64 → ValueFits value → IsReadable (refused_data n value)
unfolding refused_data
refused_readable n None number value = (refl, (refl, name (codes "refused") refl, (refl, number, tt)))
refused_readable n (Some slot) number value =
    (refl, (refl, name (codes "refused") refl, (refl, number, (refl, value, tt))))

placed_readable : (kind : List ℕ) (p : Placement) → are_ascii kind ≡ true → PlacementFits (Some p)
    → IsReadable (placed_data kind p)
unfolding placed_data counts
placed_readable kind p small fits =
    (refl, (refl, name kind small, (refl, fits.0, (refl, counts_readable (2 ^ 16) p.starts (omega arith) fits.1, tt))))

reply_readable : (reply : Reply) → ReplyFits reply → IsReadable (reply_data reply)
unfolding reply_data plain_data
reply_readable (Admitted None) fits = (refl, (refl, name (codes "admitted") refl, tt))
reply_readable (Admitted (Some p)) fits = placed_readable (codes "admitted") p refl fits
reply_readable (Changed None) fits = (refl, (refl, name (codes "changed") refl, tt))
reply_readable (Changed (Some p)) fits = placed_readable (codes "changed") p refl fits
reply_readable Removed fits = (refl, (refl, name (codes "removed") refl, tt))
reply_readable Taken fits = (refl, (refl, name (codes "taken") refl, tt))
reply_readable Noted fits = (refl, (refl, name (codes "noted") refl, tt))
reply_readable Reserved fits = (refl, (refl, name (codes "reserved") refl, tt))
reply_readable (Built m) fits = map_readable m fits
reply_readable (Skipped next) fits = (refl, (refl, name (codes "skipped") refl, (refl, fits, tt)))
reply_readable (Flow asked granted outstanding) fits =
    (refl, (refl, fits.0, (refl, fits.1, (refl, name (codes "flow") refl, (refl, fits.2, tt)))))
reply_readable (Refused refusal) fits =
    refused_readable (refusal_number refusal) (refusal_value refusal) (number_fits refusal) fits

-- an entry is read again in its text
pub entry_readable : (e : Entry) → EntryFits e → IsReadable (entry_data e)
unfolding entry_data
entry_readable e fits = (
  refl,
  (
    refl,
    call_readable e.call fits.call,
    (
      refl,
      reply_readable e.reply fits.reply,
      (refl, of_word e.stamp.seat fits.seat, (refl, fits.ticket, tt)),
    ),
  ),
)

entries_readable : (es : List Entry) → AllByRecursion EntryFits es → AreReadable (items_of (map entry_data es))
entries_readable [] fits = tt
entries_readable (e ∷ es) fits = (entry_readable e fits.0, entries_readable es fits.1)

-- a history is read again in its text
pub history_readable : (c : Config) (es : List Entry) → ConfigFits c → AllByRecursion EntryFits es
    → IsReadable (history_data c es)
unfolding history_data entries_data
history_readable c es config_fits entries_fit =
    (refl, (refl, config_readable c config_fits, (refl, entries_readable es entries_fit, tt)))
