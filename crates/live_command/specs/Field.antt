-- The names of the fields of a configuration.
use Rattle.std.specs.Prelude.{ℕ, List, codes}
use Rattle.live_command.specs.declared.field.Field.{Field}
use Rattle.live_command.specs.declared.field.Field.TheVariants.{Ticks, BytesPerSlot, Overhead, Frame, Cycle, ReqSlots}
use Rattle.live_command.specs.declared.field.Field.TheVariants.{PollSlots, Lead, ShortMax, Quantum, GrantCap, Receivers}
use Rattle.live_command.specs.declared.field.Field.TheVariants.{Calls, Start, RangingStart, RangingEnd, DataStart}
use Rattle.live_command.specs.declared.field.Field.TheVariants.{DataEnd, Channel, UcdCount, Phy, Bursts, Symbols}
use Rattle.live_command.specs.declared.field.Field.TheVariants.{Profile, Flows, Pending, Periodic, OpenIdle, Settle}
use Rattle.live_command.specs.declared.field.Member.{Member}
use Rattle.live_command.specs.declared.field.Member.TheVariants.{Preamble, Guard, Bits, Parity, Information, Shortened}
use Rattle.live_command.specs.declared.field.Usage.{Usage}
use Rattle.live_command.specs.declared.field.Usage.TheVariants.{Short, Long, Unsolicited}

-- the name of a profile
abbrev pub usage_words : Usage → List ℕ
usage_words Short = codes "short"
usage_words Long = codes "long"
usage_words Unsolicited = codes "unsolicited"

-- the name of a number of a profile
abbrev pub member_words : Member → List ℕ
member_words Preamble = codes "preamble"
member_words Guard = codes "guard"
member_words Bits = codes "bits"
member_words Parity = codes "parity"
member_words Information = codes "information"
member_words Shortened = codes "shortened"

-- the name of a field; of a number of a profile, that of the bursts
abbrev pub field_words : Field → List ℕ
field_words Ticks = codes "ticks"
field_words BytesPerSlot = codes "bytes_per_slot"
field_words Overhead = codes "overhead"
field_words Frame = codes "frame"
field_words Cycle = codes "cycle"
field_words ReqSlots = codes "req_slots"
field_words PollSlots = codes "poll_slots"
field_words Lead = codes "lead"
field_words ShortMax = codes "short_max"
field_words Quantum = codes "quantum"
field_words GrantCap = codes "grant_cap"
field_words Receivers = codes "receivers"
field_words Calls = codes "calls"
field_words Start = codes "start"
field_words RangingStart = codes "ranging_start"
field_words RangingEnd = codes "ranging_end"
field_words DataStart = codes "data_start"
field_words DataEnd = codes "data_end"
field_words Channel = codes "channel"
field_words UcdCount = codes "ucd_count"
field_words Phy = codes "phy"
field_words Bursts = codes "bursts"
field_words Symbols = codes "bursts.symbols"
field_words (Profile usage member) = codes "bursts"
field_words Flows = codes "flows"
field_words Pending = codes "pending"
field_words Periodic = codes "periodic"
field_words OpenIdle = codes "open_idle"
field_words Settle = codes "settle"
