-- A history that is judged, and the least entry that may not follow those before it.
use Rattle.std.specs.Prelude.{◌≡◌, ℕ, Bool, true, false, not, List, take, Option, None, Some}
use Rattle.std.specs.List.{slice_get}
use Rattle.minislots.specs.declared.config.Config.{Config}
use Rattle.map_codec.specs.declared.wire_map.WireMap.{WireMap}
use Rattle.sched_calls.specs.FlowSpec.{is_periodic}
use Rattle.sched_history.specs.declared.auditing.sameness.FixedFields.{FixedFields}
use Rattle.sched_history.specs.declared.auditing.sameness.FlatReply.{FlatReply}
use Rattle.sched_history.specs.declared.auditing.sameness.FlatReply.TheVariants as flat
use Rattle.sched_calls.specs.declared.call.Call.{Call}
use Rattle.sched_calls.specs.declared.call.Call.TheVariants.{Admit, Remove, Ask, Heard, Build, Skip, Status}
use Rattle.sched_calls.specs.declared.call.Call.TheVariants.{Reserve, Header, Replace, Change, Rest, Wake}
use Rattle.sched_calls.specs.declared.reply.Reply.{Reply}
use Rattle.sched_calls.specs.declared.reply.Reply.TheVariants as replies
use Rattle.sched_calls.specs.declared.reply.Entry.{Entry}
use Rattle.sched_history.specs.History.{IsStep, IsLegal}

-- The entries before this one are legal, and its reply may not follow them: so it is the least such entry
pub record IsFirstIllegal (c : Config) (h : List Entry) (i : ℕ) : Type 0 where
  pub entry : Entry
  pub stands : slice_get h i ≡ Some entry
  pub legal_before : IsLegal c (take i h)
  pub no_step : IsStep c (take i h) entry.call entry.reply → ⊥

-- the call has one answer, which has no lists, where no test refuses it
abbrev pub is_told : Call → Bool
is_told (Admit sid spec) = not (is_periodic spec)
is_told (Remove sid) = true
is_told (Ask receiver sid amount heard) = true
is_told (Heard receiver upto) = true
is_told (Build now) = false
is_told (Skip now) = true
is_told (Status sid) = true
is_told (Reserve usage slots) = true
is_told (Header header) = true
is_told (Replace receiver sid amount heard) = true
is_told (Change sid spec) = not (is_periodic spec)
is_told (Rest sid) = true
is_told (Wake sid) = true

-- a reply without lists
abbrev pub flat_of : Reply → Option FlatReply
flat_of (replies.Admitted None) = Some flat.Admitted
flat_of (replies.Admitted (Some p)) = None
flat_of (replies.Changed None) = Some flat.Changed
flat_of (replies.Changed (Some p)) = None
flat_of replies.Removed = Some flat.Removed
flat_of replies.Taken = Some flat.Taken
flat_of replies.Noted = Some flat.Noted
flat_of replies.Reserved = Some flat.Reserved
flat_of (replies.Built m) = None
flat_of (replies.Skipped next) = Some (flat.Skipped next)
flat_of (replies.Flow asked granted outstanding) = Some (flat.Flow asked granted outstanding)
flat_of (replies.Refused refusal) = Some (flat.Refused refusal)

-- the fixed fields of a payload
abbrev pub fixed_fields : WireMap → FixedFields
fixed_fields m = record {
  channel = m.channel;
  ucd_count = m.ucd_count;
  reserved = m.reserved;
  alloc_start = m.alloc_start;
  ack = m.ack;
  ranging_start = m.ranging_start;
  ranging_end = m.ranging_end;
  data_start = m.data_start;
  data_end = m.data_end;
}
