-- Which configurations of a channel are lawful, and which field of another is the first that is wrong.
use Rattle.std.specs.Prelude.{◌≡◌, ℕ, ◌<◌, ◌≤◌, ◌+◌, ◌*◌, ◌%◌, ◌^◌, Bool, true, not, ◌&&◌, ◌||◌, nat_le, ◌==◌}
use Rattle.std.specs.Prelude.{List, [], ◌∷◌, Option, Some, None, Result, Ok, Err, find}
use Rattle.minislots.specs.declared.TheConstants.{MAX_ASK}
use Rattle.minislots.specs.declared.config.Config.{Config}
use Rattle.minislots.specs.declared.config.ConfigFault.{ConfigFault}
use Rattle.minislots.specs.declared.bursts.Bursts.TheVariants.{Uniform, Described}
use Rattle.minislots.specs.declared.bursts.Bursts as the_bursts
use Rattle.minislots.specs.declared.config.ConfigFault.TheVariants.{Ticks, BytesPerSlot, Overhead, Bursts, Frame}
use Rattle.minislots.specs.declared.config.ConfigFault.TheVariants.{Cycle, ReqSlots, PollSlots, Lead}
use Rattle.minislots.specs.declared.config.ConfigFault.TheVariants.{ShortMax, Quantum, GrantCap}
use Rattle.minislots.specs.declared.config.ConfigFault.TheVariants.{Receivers, Calls, Start, RangingStart}
use Rattle.minislots.specs.declared.config.ConfigFault.TheVariants.{RangingEnd, DataStart, DataEnd, Phy}
use Rattle.minislots.specs.declared.config.ConfigFault.TheVariants.{Flows, Pending, Periodic, OpenIdle, Settle}
use Rattle.minislots.specs.Bursts.{HasBursts, is_within, are_descriptors, long_slots}
use Rattle.minislots.specs.Units.{slots_for}

-- a minislot has 1, 2, 4, 8, 16, 32, 64 or 128 ticks
abbrev pub is_ticks : ℕ → Bool
is_ticks n = n == 1 || n == 2 || n == 4 || n == 8 || n == 16 || n == 32 || n == 64 || n == 128

-- the bytes that a minislot carries are lawful, where each burst has the same
abbrev pub has_bytes_per_slot : the_bursts.Bursts → Bool
has_bytes_per_slot (Uniform bytes_per_slot overhead) = is_within 1 1024 bytes_per_slot
has_bytes_per_slot (Described d) = true

-- and so is the overhead of a burst
abbrev pub has_overhead : the_bursts.Bursts → Bool
has_overhead (Uniform bytes_per_slot overhead) = is_within 1 64 overhead
has_overhead (Described d) = true

-- the burst descriptors are lawful, where there are some
abbrev pub has_descriptors : the_bursts.Bursts → Bool
has_descriptors (Uniform bytes_per_slot overhead) = true
has_descriptors (Described d) = are_descriptors d

-- whether the field of this fault is lawful
abbrev pub is_lawful_field : Config → ConfigFault → Bool
is_lawful_field c Ticks = is_ticks c.ticks
is_lawful_field c BytesPerSlot = has_bytes_per_slot c.bursts
is_lawful_field c Overhead = has_overhead c.bursts
is_lawful_field c Bursts = has_descriptors c.bursts
is_lawful_field c Frame = is_within 16 1024 c.frame
is_lawful_field c Cycle = is_within 1 64 c.cycle
is_lawful_field c ReqSlots = nat_le 1 c.req_slots && nat_le (c.req_slots + long_slots c.bursts 1) c.frame
is_lawful_field c PollSlots = nat_le 1 c.poll_slots && nat_le (c.poll_slots + c.req_slots) c.frame
is_lawful_field c Lead = nat_le (c.lead + 2 * c.frame) 4096
is_lawful_field c ShortMax = nat_le c.short_max c.frame
is_lawful_field c Quantum =
    is_within 64 1522 c.quantum && nat_le (slots_for c c.quantum + c.req_slots) c.frame
is_lawful_field c GrantCap = is_within c.quantum MAX_ASK c.grant_cap
is_lawful_field c Receivers = is_within 1 16 c.receivers
is_lawful_field c Calls = is_within 1 16777216 c.calls
is_lawful_field c Start = c.start % c.frame == 0 && nat_le c.start (2 ^ 60)
is_lawful_field c RangingStart = nat_le c.ranging_start 15
is_lawful_field c RangingEnd = nat_le c.ranging_end 15
is_lawful_field c DataStart = nat_le c.data_start 15
is_lawful_field c DataEnd = nat_le c.data_end 15
is_lawful_field c Phy = nat_le c.phy 1
is_lawful_field c Flows = is_within 1 8191 c.flows
is_lawful_field c Pending = is_within 1 125 c.pending
is_lawful_field c Periodic = nat_le c.periodic 2560
is_lawful_field c OpenIdle = nat_le c.open_idle 1
is_lawful_field c Settle = nat_le c.settle 4096

-- the fields of a burst
abbrev pub burst_fields : List ConfigFault
burst_fields = Ticks ∷ BytesPerSlot ∷ Overhead ∷ Bursts ∷ []

-- the fields that lay out a frame
abbrev pub frame_fields : List ConfigFault
frame_fields = Frame ∷ Cycle ∷ ReqSlots ∷ PollSlots ∷ Lead ∷ ShortMax ∷ []

-- the fields of a data grant
abbrev pub grant_fields : List ConfigFault
grant_fields = Quantum ∷ GrantCap ∷ []

-- the fields of what is recorded, and from where on
abbrev pub history_fields : List ConfigFault
history_fields = Receivers ∷ Calls ∷ Start ∷ []

-- the fields of the backoff windows
abbrev pub backoff_fields : List ConfigFault
backoff_fields = RangingStart ∷ RangingEnd ∷ DataStart ∷ DataEnd ∷ []

-- the field of the channel's physical layer
abbrev pub channel_fields : List ConfigFault
channel_fields = Phy ∷ []

-- the fields of how many flows there may be, how many a MAP shows, and how many periodic grants an interval has
abbrev pub flow_fields : List ConfigFault
flow_fields = Flows ∷ Pending ∷ Periodic ∷ []

-- the fields of idles that are open to requests, and of MAPs in which nobody sends
abbrev pub idle_fields : List ConfigFault
idle_fields = OpenIdle ∷ Settle ∷ []

-- the fields that can be wrong, in their order
abbrev pub fields : List ConfigFault
fields =
    Ticks ∷ BytesPerSlot ∷ Overhead ∷ Bursts ∷ Frame ∷ Cycle ∷ ReqSlots ∷ PollSlots ∷ Lead ∷ ShortMax
    ∷ Quantum ∷ GrantCap ∷ Receivers ∷ Calls ∷ Start ∷ RangingStart ∷ RangingEnd ∷ DataStart ∷ DataEnd ∷ Phy
    ∷ Flows ∷ Pending ∷ Periodic ∷ OpenIdle ∷ Settle ∷ []

-- the first of some fields that is wrong
abbrev pub first_wrong_of : Config → List ConfigFault → Option ConfigFault
first_wrong_of c some = find (λ field. not (is_lawful_field c field)) some

-- a test of some fields passes where none is wrong, and else names the first that is
abbrev pub NamesFirstWrong : Config → List ConfigFault → Result (Unit {0}) ConfigFault → Type 0
NamesFirstWrong c some (Ok u) = first_wrong_of c some ≡ None
NamesFirstWrong c some (Err fault) = first_wrong_of c some ≡ Some fault

-- the first field that is wrong
unfoldable pub first_wrong : Config → Option ConfigFault
first_wrong c = first_wrong_of c fields

-- no field is wrong
abbrev pub IsLawful : Config → Type 0
IsLawful c = first_wrong c ≡ None

-- what is known of a lawful configuration
pub record HasBounds (c : Config) : Type 0 where
  pub ticks_positive : 0 < c.ticks
  pub ticks_most : c.ticks ≤ 128
  pub bursts : HasBursts c.bursts
  pub frame_least : 16 ≤ c.frame
  pub frame_most : c.frame ≤ 1024
  pub cycle_positive : 0 < c.cycle
  pub cycle_most : c.cycle ≤ 64
  pub requests_positive : 0 < c.req_slots
  pub requests_fit : c.req_slots + long_slots c.bursts 1 ≤ c.frame
  pub poll_positive : 0 < c.poll_slots
  pub poll_fits : c.poll_slots + c.req_slots ≤ c.frame
  pub lead_most : c.lead + 2 * c.frame ≤ 4096
  pub short_most : c.short_max ≤ c.frame
  pub quantum_least : 64 ≤ c.quantum
  pub quantum_most : c.quantum ≤ 1522
  pub quantum_fits : slots_for c c.quantum + c.req_slots ≤ c.frame
  pub cap_least : c.quantum ≤ c.grant_cap
  pub cap_most : c.grant_cap ≤ MAX_ASK
  pub receivers_positive : 0 < c.receivers
  pub receivers_most : c.receivers ≤ 16
  pub calls_positive : 0 < c.calls
  pub calls_most : c.calls ≤ 16777216
  pub start_aligned : c.start % c.frame ≡ 0
  pub start_most : c.start ≤ 2 ^ 60
  pub ranging_start_most : c.ranging_start ≤ 15
  pub ranging_end_most : c.ranging_end ≤ 15
  pub data_start_most : c.data_start ≤ 15
  pub data_end_most : c.data_end ≤ 15
  pub phy_most : c.phy ≤ 1
  pub flows_positive : 0 < c.flows
  pub flows_most : c.flows ≤ 8191
  pub pending_positive : 0 < c.pending
  pub pending_most : c.pending ≤ 125
  pub periodic_most : c.periodic ≤ 2560
  pub open_idle_most : c.open_idle ≤ 1
  pub settle_most : c.settle ≤ 4096
