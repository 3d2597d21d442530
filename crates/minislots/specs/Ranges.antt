-- Which values a field of a configuration may have beside the fields before it.
use Rattle.std.specs.Prelude.{ℕ, ◌-◌, ◌%◌, ◌==◌, Bool, true, false, List, take, min}
use Rattle.minislots.specs.declared.config.Config.{Config}
use Rattle.minislots.specs.declared.config.ConfigFault.{ConfigFault}
use Rattle.minislots.specs.declared.config.ConfigFault.TheVariants.{Ticks, BytesPerSlot, Overhead, Bursts, Frame}
use Rattle.minislots.specs.declared.config.ConfigFault.TheVariants.{Cycle, ReqSlots, PollSlots, Lead}
use Rattle.minislots.specs.declared.config.ConfigFault.TheVariants.{ShortMax, Quantum, GrantCap}
use Rattle.minislots.specs.declared.config.ConfigFault.TheVariants.{Receivers, Calls, Start, RangingStart}
use Rattle.minislots.specs.declared.config.ConfigFault.TheVariants.{RangingEnd, DataStart, DataEnd, Phy}
use Rattle.minislots.specs.declared.config.ConfigFault.TheVariants.{Flows, Pending, Periodic, OpenIdle, Settle}
use Rattle.minislots.specs.declared.config.ranges.FieldRule.{FieldRule}
use Rattle.minislots.specs.declared.config.ranges.FieldRule.TheVariants.{Any, PowerOfTwo, WholeFrames}
use Rattle.minislots.specs.declared.bursts.Bursts as the_bursts
use Rattle.minislots.specs.declared.bursts.Bursts.TheVariants.{Uniform, Described}
use Rattle.minislots.specs.Bursts.{is_uniform}
use Rattle.minislots.specs.Config.{is_ticks, fields}
use Rattle.minislots.specs.Units.{bytes_in}

-- how many fields stand before this one
abbrev pub count_before : ConfigFault → ℕ
count_before Ticks = 0
count_before BytesPerSlot = 1
count_before Overhead = 2
count_before Bursts = 3
count_before Frame = 4
count_before Cycle = 5
count_before ReqSlots = 6
count_before PollSlots = 7
count_before Lead = 8
count_before ShortMax = 9
count_before Quantum = 10
count_before GrantCap = 11
count_before Receivers = 12
count_before Calls = 13
count_before Start = 14
count_before RangingStart = 15
count_before RangingEnd = 16
count_before DataStart = 17
count_before DataEnd = 18
count_before Phy = 19
count_before Flows = 20
count_before Pending = 21
count_before Periodic = 22
count_before OpenIdle = 23
count_before Settle = 24

-- the fields before this one
abbrev pub fields_before : ConfigFault → List ConfigFault
fields_before field = take (count_before field) fields

-- bursts with these bytes in a minislot, where each has the same
abbrev pub with_bytes_per_slot : ℕ → the_bursts.Bursts → the_bursts.Bursts
with_bytes_per_slot n (Uniform bytes_per_slot overhead) = Uniform n overhead
with_bytes_per_slot n (Described d) = Described d

-- and with this overhead
abbrev pub with_overhead : ℕ → the_bursts.Bursts → the_bursts.Bursts
with_overhead n (Uniform bytes_per_slot overhead) = Uniform bytes_per_slot n
with_overhead n (Described d) = Described d

-- whether the field is a number here: burst descriptors are none, and beside them there are no bytes in a minislot and
-- no overhead
abbrev pub is_number : Config → ConfigFault → Bool
is_number c BytesPerSlot = is_uniform c.bursts
is_number c Overhead = is_uniform c.bursts
is_number c Bursts = false
is_number c field = true

-- the configuration with this value in the field's place
abbrev pub with_value : Config → ConfigFault → ℕ → Config
with_value c Ticks n = record c { ticks = n }
with_value c BytesPerSlot n = record c { bursts = with_bytes_per_slot n c.bursts }
with_value c Overhead n = record c { bursts = with_overhead n c.bursts }
with_value c Bursts n = c
with_value c Frame n = record c { frame = n }
with_value c Cycle n = record c { cycle = n }
with_value c ReqSlots n = record c { req_slots = n }
with_value c PollSlots n = record c { poll_slots = n }
with_value c Lead n = record c { lead = n }
with_value c ShortMax n = record c { short_max = n }
with_value c Quantum n = record c { quantum = n }
with_value c GrantCap n = record c { grant_cap = n }
with_value c Receivers n = record c { receivers = n }
with_value c Calls n = record c { calls = n }
with_value c Start n = record c { start = n }
with_value c RangingStart n = record c { ranging_start = n }
with_value c RangingEnd n = record c { ranging_end = n }
with_value c DataStart n = record c { data_start = n }
with_value c DataEnd n = record c { data_end = n }
with_value c Phy n = record c { phy = n }
with_value c Flows n = record c { flows = n }
with_value c Pending n = record c { pending = n }
with_value c Periodic n = record c { periodic = n }
with_value c OpenIdle n = record c { open_idle = n }
with_value c Settle n = record c { settle = n }

-- the number is a power of two, where it is below 256
abbrev pub is_power_of_two : ℕ → Bool
is_power_of_two = is_ticks

-- what a field's value must be beside standing in its range
abbrev pub rule_of : ConfigFault → FieldRule
rule_of Ticks = PowerOfTwo
rule_of Start = WholeFrames
rule_of field = Any

-- the number is what the rule says
abbrev pub meets : FieldRule → Config → ℕ → Bool
meets Any c n = true
meets PowerOfTwo c n = is_power_of_two n
meets WholeFrames c n = n % c.frame == 0

-- the most bytes of a quantum whose burst fits behind the request region
abbrev pub most_quantum : Config → ℕ
most_quantum c = min (bytes_in c (c.frame - c.req_slots)) 1522
