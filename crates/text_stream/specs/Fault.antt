-- The numbers by which the fields of a configuration are told in a fault.
use Rattle.std.specs.Prelude.{ℕ}
use Rattle.minislots.specs.declared.config.ConfigFault.{ConfigFault}
use Rattle.minislots.specs.declared.config.ConfigFault.TheVariants as fields

-- the number of a configuration's field: in the order of their tests, but that burst descriptors come behind the
-- physical layer
abbrev pub field_number : ConfigFault → ℕ
field_number fields.Ticks = 1
field_number fields.BytesPerSlot = 2
field_number fields.Overhead = 3
field_number fields.Frame = 4
field_number fields.Cycle = 5
field_number fields.ReqSlots = 6
field_number fields.PollSlots = 7
field_number fields.Lead = 8
field_number fields.ShortMax = 9
field_number fields.Quantum = 10
field_number fields.GrantCap = 11
field_number fields.Receivers = 12
field_number fields.Calls = 13
field_number fields.Start = 14
field_number fields.RangingStart = 15
field_number fields.RangingEnd = 16
field_number fields.DataStart = 17
field_number fields.DataEnd = 18
field_number fields.Phy = 19
field_number fields.Bursts = 20
field_number fields.Flows = 21
field_number fields.Pending = 22
field_number fields.Periodic = 23
field_number fields.OpenIdle = 24
field_number fields.Settle = 25
