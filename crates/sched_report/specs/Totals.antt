-- The numbers of entries of a history.
use Rattle.std.specs.Prelude.{◌≡◌, ℕ, ◌+◌, ◌*◌, ◌^◌, ◌≤◌, ◌==◌, ◌&&◌, Bool, true, false, List, [], ◌∷◌}
use Rattle.std.specs.Prelude.{length, count_by, slice_get, Option, None, Some, option_map}
use Rattle.std.specs.Option.{option_or}
use Rattle.minislots.specs.declared.config.Config.{Config}
use Rattle.sched_calls.specs.declared.reply.Entry.{Entry}
use Rattle.sched_calls.specs.declared.call.Call.{Call}
use Rattle.sched_calls.specs.declared.reply.Reply.{Reply}
use Rattle.sched_calls.specs.declared.reply.Reply.TheVariants.{Skipped, Taken}
use Rattle.sched_history.specs.Facts.{maps_of}
use Rattle.frame_picture.specs.Frames.{frames_after}
use Rattle.sched_calls.specs.declared.frame_map.FrameMap.{FrameMap}
use Rattle.sched_report.specs.declared.slots.Slots.{Slots}
use Rattle.sched_report.specs.declared.totals.Totals.{Totals}
use Rattle.sched_report.specs.Counts.{is_replace, calls_of}
use Rattle.sched_report.specs.Uses.{slots_of, sum_of, all_slots}

-- the last member of a list
abbrev pub last_of : {X : Type 0} → List X → Option X
last_of [] = None
last_of (x ∷ []) = Some x
last_of (x ∷ y ∷ xs) = last_of (y ∷ xs)

-- whether frames were left out
abbrev pub is_skip_answer : Reply → Bool
is_skip_answer (Skipped next) = true
is_skip_answer reply = false

-- whether a request was accepted
abbrev pub is_taken : Reply → Bool
is_taken Taken = true
is_taken reply = false

-- whether an entry is an accepted request that supersedes those before, of whichever SID
abbrev pub is_replacement : Call → Reply → Bool
is_replacement call reply = is_replace call && is_taken reply

-- the numbers of entries that stand behind others: their frames, where the first starts and the last ends, how often
-- frames were left out and requests were superseded, the calls by their kind, the minislots of the frames by their use,
-- and whether idles are open to requests
abbrev pub totals_of : Config → List Entry → List Entry → Totals
totals_of c before es = record {
  frames = length (maps_of es);
  from = option_map (λ m. m.start) (slice_get (maps_of es) 0);
  to = option_map (λ m. m.start + c.frame) (last_of (maps_of es));
  skips = count_by (λ e. is_skip_answer e.reply) es;
  replaces = count_by (λ e. is_replacement e.call e.reply) es;
  calls = calls_of es;
  slots = slots_of c (frames_after before es);
  opens = c.open_idle == 1;
}

-- the numbers with the frame of one MAP more, which has so many minislots, and these by their use
abbrev pub with_frame : ℕ → Totals → FrameMap → Slots → Totals
with_frame frame t m s = record t {
  frames = t.frames + 1;
  from = option_or t.from (Some m.start);
  to = Some (m.start + frame);
  slots = sum_of t.slots s;
}

-- The numbers are those of entries that stand behind others, and keep to bounds
pub record AreTotals (c : Config) (before es : List Entry) (t : Totals) : Type 0 where
  pub value : t ≡ totals_of c before es
  pub few : t.frames ≤ length es
  pub bounded : all_slots t.slots ≤ 2 ^ 14 * length es
