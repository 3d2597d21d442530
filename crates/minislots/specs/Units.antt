-- Times and bursts in minislots.
use Rattle.std.specs.Prelude.{ℕ, ◌*◌, ◌/◌, ◌%◌, ◌^◌, ◌==◌, Bool, Option, Some, None, if◌then◌else◌}
use Rattle.minislots.specs.declared.config.Config.{Config}
use Rattle.minislots.specs.Bursts.{length_of, capacity_of, is_short_burst, unsolicited_slots}

-- the whole minislots in a time of this many microseconds: a tick is 6.25 of them
abbrev pub slots_floor : Config → ℕ → ℕ
slots_floor c micros = 4 * micros / (25 * c.ticks)

-- the minislots of a time, where it is whole minislots
abbrev pub slots_of_micros : Config → ℕ → Option ℕ
slots_of_micros c micros = if 4 * micros % (25 * c.ticks) == 0 then Some (slots_floor c micros) else None

-- the minislots of a data grant of this many bytes
abbrev pub slots_for : Config → ℕ → ℕ
slots_for c bytes = length_of c.bursts c.short_max bytes

-- the most bytes of a data grant of at most this many minislots
abbrev pub bytes_in : Config → ℕ → ℕ
bytes_in c slots = capacity_of c.bursts c.short_max slots

-- whether a data grant of this many bytes is a short one
abbrev pub is_short : Config → ℕ → Bool
is_short c bytes = is_short_burst c.bursts c.short_max bytes

-- the minislots of an unsolicited grant of this many bytes: those of a data grant, or where the channel has Advanced
-- PHY bursts those by the profile of unsolicited grants
abbrev pub slots_for_unsolicited : Config → ℕ → ℕ
slots_for_unsolicited c bytes = if c.phy == 1 then unsolicited_slots c.bursts bytes else slots_for c bytes

-- what stands on the wire for a minislot
abbrev pub wire_of : ℕ → ℕ
wire_of slot = slot % 2 ^ 32
