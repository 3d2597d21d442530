-- Histories whose numbers fit the types of their fields.
use Rattle.std.specs.Prelude.{◌<◌, ◌^◌, ℕ, Option, Some, None}
use Rattle.std.specs.List.{AllByRecursion}
use Rattle.minislots.specs.declared.bursts.Bursts.{Bursts}
use Rattle.minislots.specs.declared.bursts.Bursts.TheVariants.{Uniform, Described}
use Rattle.minislots.specs.declared.bursts.Profile.{Profile}
use Rattle.minislots.specs.declared.config.Config.{Config}
use Rattle.map_codec.specs.WireMap.{IsWellFormed}
use Rattle.sched_calls.specs.declared.amount.Amount.{Amount}
use Rattle.sched_calls.specs.declared.amount.Amount.TheVariants.{Bytes, Slots}
use Rattle.sched_calls.specs.declared.spec.FlowSpec.{FlowSpec}
use Rattle.sched_calls.specs.declared.spec.FlowSpec.TheVariants.{Unsolicited, Polled, BestEffort}
use Rattle.sched_calls.specs.declared.placement.Placement.{Placement}
use Rattle.sched_calls.specs.declared.frame_map.FrameMap.{FrameMap}
use Rattle.sched_calls.specs.declared.opportunity.Usage.TheVariants.{Initial, InitialTo, Station}
use Rattle.sched_calls.specs.declared.opportunity.Usage.TheVariants.{Request, Quiet, DataTo}
use Rattle.sched_calls.specs.declared.call.Call.{Call}
use Rattle.sched_calls.specs.declared.call.Call.TheVariants.{Admit, Remove, Ask, Heard, Build, Skip, Status}
use Rattle.sched_calls.specs.declared.call.Call.TheVariants.{Reserve, Header, Replace, Change, Rest, Wake}
use Rattle.sched_calls.specs.declared.reply.Reply.{Reply}
use Rattle.sched_calls.specs.declared.reply.Reply.TheVariants.{Admitted, Removed, Taken, Noted, Built, Skipped, Flow}
use Rattle.sched_calls.specs.declared.reply.Reply.TheVariants.{Reserved, Refused, Changed}
use Rattle.sched_calls.specs.declared.reply.Entry.{Entry}
use Rattle.sched_lines.specs.Line.{refusal_value}

-- the numbers of a flow fit their types
abbrev pub FlowFits : FlowSpec → Type 0
FlowFits (Unsolicited size interval jitter grants) = (size < 2 ^ 32) × (interval < 2 ^ 32) × (jitter < 2 ^ 32)
    × (grants < 2 ^ 8)
FlowFits (Polled interval jitter rate burst peak) = (interval < 2 ^ 32) × (jitter < 2 ^ 32) × (rate < 2 ^ 32)
    × (burst < 2 ^ 32) × (peak < 2 ^ 32)
FlowFits (BestEffort priority rate burst peak reserved reserved-burst) = (priority < 2 ^ 8) × (rate < 2 ^ 32)
    × (burst < 2 ^ 32) × (peak < 2 ^ 32) × (reserved < 2 ^ 32) × (reserved-burst < 2 ^ 32)

-- how much a request asks for fits its type
abbrev pub AmountFits : Amount → Type 0
AmountFits (Bytes bytes) = bytes < 2 ^ 32
AmountFits (Slots slots) = slots < 2 ^ 32

-- the numbers of a call fit their types
abbrev pub CallFits : Call → Type 0
CallFits (Admit sid spec) = (sid < 2 ^ 16) × FlowFits spec
CallFits (Remove sid) = sid < 2 ^ 16
CallFits (Ask receiver sid amount heard) = (receiver < 2 ^ 8) × (sid < 2 ^ 16) × AmountFits amount × (heard < 2 ^ 64)
CallFits (Heard receiver upto) = (receiver < 2 ^ 8) × (upto < 2 ^ 64)
CallFits (Build now) = now < 2 ^ 64
CallFits (Skip now) = now < 2 ^ 64
CallFits (Status sid) = sid < 2 ^ 16
CallFits (Reserve Initial slots) = slots < 2 ^ 32
CallFits (Reserve (InitialTo sid) slots) = (sid < 2 ^ 16) × (slots < 2 ^ 32)
CallFits (Reserve (Station sid) slots) = (sid < 2 ^ 16) × (slots < 2 ^ 32)
CallFits (Reserve (Request sid) slots) = (sid < 2 ^ 16) × (slots < 2 ^ 32)
CallFits (Reserve Quiet slots) = slots < 2 ^ 32
CallFits (Reserve (DataTo sid) slots) = (sid < 2 ^ 16) × (slots < 2 ^ 32)
CallFits (Header header) = (header.ucd_count < 2 ^ 8) × (header.ranging_start < 2 ^ 8)
    × (header.ranging_end < 2 ^ 8) × (header.data_start < 2 ^ 8) × (header.data_end < 2 ^ 8)
CallFits (Replace receiver sid amount heard) =
    (receiver < 2 ^ 8) × (sid < 2 ^ 16) × AmountFits amount × (heard < 2 ^ 64)
CallFits (Change sid spec) = (sid < 2 ^ 16) × FlowFits spec
CallFits (Rest sid) = sid < 2 ^ 16
CallFits (Wake sid) = sid < 2 ^ 16

-- the numbers of a burst descriptor fit their type
pub record ProfileFits (p : Profile) : Type 0 where
  pub preamble : p.preamble < 2 ^ 32
  pub guard : p.guard < 2 ^ 32
  pub bits : p.bits < 2 ^ 32
  pub parity : p.parity < 2 ^ 32
  pub information : p.information < 2 ^ 32
  pub shortened : p.shortened < 2 ^ 32

-- the numbers of a channel's bursts fit their type
abbrev pub BurstsFit : Bursts → Type 0
BurstsFit (Uniform bytes_per_slot overhead) = (bytes_per_slot < 2 ^ 32) × (overhead < 2 ^ 32)
BurstsFit (Described d) =
    (d.symbols < 2 ^ 32) × ProfileFits d.short × ProfileFits d.long × ProfileFits d.unsolicited

-- the numbers of a configuration fit their types
pub record ConfigFits (c : Config) : Type 0 where
  pub ticks : c.ticks < 2 ^ 32
  pub bursts : BurstsFit c.bursts
  pub frame : c.frame < 2 ^ 32
  pub cycle : c.cycle < 2 ^ 32
  pub req_slots : c.req_slots < 2 ^ 32
  pub poll_slots : c.poll_slots < 2 ^ 32
  pub lead : c.lead < 2 ^ 32
  pub short_max : c.short_max < 2 ^ 32
  pub quantum : c.quantum < 2 ^ 32
  pub grant_cap : c.grant_cap < 2 ^ 32
  pub receivers : c.receivers < 2 ^ 8
  pub calls : c.calls < 2 ^ 32
  pub start : c.start < 2 ^ 64
  pub ranging_start : c.ranging_start < 2 ^ 8
  pub ranging_end : c.ranging_end < 2 ^ 8
  pub data_start : c.data_start < 2 ^ 8
  pub data_end : c.data_end < 2 ^ 8
  pub channel : c.channel < 2 ^ 8
  pub ucd_count : c.ucd_count < 2 ^ 8
  pub phy : c.phy < 2 ^ 8
  pub flows : c.flows < 2 ^ 32
  pub pending : c.pending < 2 ^ 32
  pub periodic : c.periodic < 2 ^ 32
  pub open_idle : c.open_idle < 2 ^ 8
  pub settle : c.settle < 2 ^ 32

-- the numbers of a placement fit their types, where there is one
abbrev pub PlacementFits : Option Placement → Type 0
PlacementFits None = Unit {0}
PlacementFits (Some p) = (p.reference < 2 ^ 64) × AllByRecursion (λ start. start < 2 ^ 16) p.starts

-- the numbers of a MAP fit their types, and it is well formed
pub record MapFits (m : FrameMap) : Type 0 where
  pub start : m.start < 2 ^ 64
  pub ack : m.ack < 2 ^ 64
  pub formed : IsWellFormed m.wire
  pub bytes : AllByRecursion (λ n. n < 2 ^ 32) m.bytes

-- the value of a refusal fits its type, where there is one
abbrev pub ValueFits : Option ℕ → Type 0
ValueFits None = Unit {0}
ValueFits (Some value) = value < 2 ^ 64

-- the numbers of a reply fit their types, and its MAP is well formed
abbrev pub ReplyFits : Reply → Type 0
ReplyFits (Admitted placement) = PlacementFits placement
ReplyFits (Changed placement) = PlacementFits placement
ReplyFits Removed = Unit {0}
ReplyFits Taken = Unit {0}
ReplyFits Noted = Unit {0}
ReplyFits Reserved = Unit {0}
ReplyFits (Built m) = MapFits m
ReplyFits (Skipped next) = next < 2 ^ 64
ReplyFits (Flow asked granted outstanding) = (asked < 2 ^ 64) × (granted < 2 ^ 64) × (outstanding < 2 ^ 64)
ReplyFits (Refused refusal) = ValueFits (refusal_value refusal)

-- the numbers of an entry fit their types, and its MAP is well formed
pub record EntryFits (e : Entry) : Type 0 where
  pub seat : e.stamp.seat < 2 ^ 32
  pub ticket : e.stamp.ticket < 2 ^ 64
  pub call : CallFits e.call
  pub reply : ReplyFits e.reply
