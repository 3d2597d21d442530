-- What bursts of so many bytes take on a channel.
use Rattle.std.specs.Prelude.{ℕ, ◌*◌, ◌/◌, ◌==◌, Bool, if◌then◌else◌, Option, Some, None, option_and_then}
use Rattle.minislots.specs.declared.config.Config.{Config}
use Rattle.minislots.specs.declared.bursts.Bursts.{Bursts}
use Rattle.minislots.specs.declared.bursts.Bursts.TheVariants.{Uniform, Described}
use Rattle.minislots.specs.declared.bursts.Profile.{Profile}
use Rattle.minislots.specs.Bursts.{slots_by, is_profile}
use Rattle.minislots.specs.Units.{is_short, slots_for}
use Rattle.bursts_command.specs.declared.channel.Channel.{Channel}
use Rattle.bursts_command.specs.declared.numbers.ByProfile.{ByProfile}
use Rattle.bursts_command.specs.declared.numbers.Burst.{Burst}

-- the minislots of a burst by a lawful profile, where the channel has burst descriptors
abbrev pub slots_of : Bursts → Profile → ℕ → Option ℕ
slots_of (Uniform bytes_per_slot overhead) p bytes = None
slots_of (Described d) p bytes = if is_profile p then Some (slots_by d.symbols p bytes) else None

-- the minislots of a request, where its profile is known and lawful
abbrev pub request_slots : Channel → ℕ → Option ℕ
request_slots channel bytes = option_and_then (λ p. slots_of channel.config.bursts p bytes) channel.request

-- the minislots of a burst by each profile
abbrev pub by_profile : Bursts → ℕ → Option ByProfile
by_profile (Uniform bytes_per_slot overhead) bytes = None
by_profile (Described d) bytes = Some (record {
  short = slots_by d.symbols d.short bytes;
  long = slots_by d.symbols d.long bytes;
  unsolicited = slots_by d.symbols d.unsolicited bytes;
})

-- the bits of a minislot of a data grant in which nothing stands but symbols of data: by the modulation of its profile,
-- or eight for each byte that it carries
abbrev pub raw_bits : Bursts → Bool → ℕ
raw_bits (Uniform bytes_per_slot overhead) short = 8 * bytes_per_slot
raw_bits (Described d) short = if short then d.symbols * d.short.bits else d.symbols * d.long.bits

-- how much of so many bits these bytes are, in hundredths of a percent, rounded down
abbrev pub share_of : ℕ → ℕ → ℕ
share_of bytes raw = if raw == 0 then 0 else 80000 * bytes / raw

-- what a burst of so many bytes takes: of the bits that its data grant has minislots for, its bytes are this share
unfoldable pub burst_of : Config → ℕ → Burst
burst_of c bytes = record {
  bytes = bytes;
  by_profile = by_profile c.bursts bytes;
  is_short = is_short c bytes;
  slots = slots_for c bytes;
  efficiency = share_of bytes (slots_for c bytes * raw_bits c.bursts (is_short c bytes));
}
