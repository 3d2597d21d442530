-- The usage codes of grants, by the channel's physical layer.
use Rattle.std.specs.Prelude.{ℕ, ◌==◌, if◌then◌else◌}
use Rattle.minislots.specs.declared.config.Config.{Config}
use Rattle.minislots.specs.Units.{bytes_in, is_short}
use Rattle.map_codec.specs.declared.element.iuc.TheConstants.{SHORT_DATA_GRANT, LONG_DATA_GRANT}
use Rattle.map_codec.specs.declared.element.iuc.TheConstants.{ADVANCED_SHORT_DATA_GRANT, ADVANCED_LONG_DATA_GRANT}
use Rattle.map_codec.specs.declared.element.iuc.TheConstants.{ADVANCED_UNSOLICITED_GRANT}

-- the usage code of a short data grant
abbrev pub short_iuc : Config → ℕ
short_iuc c = if c.phy == 1 then ADVANCED_SHORT_DATA_GRANT else SHORT_DATA_GRANT

-- the usage code of a long data grant, of a pending grant and of an idle
abbrev pub long_iuc : Config → ℕ
long_iuc c = if c.phy == 1 then ADVANCED_LONG_DATA_GRANT else LONG_DATA_GRANT

-- the usage code of a data grant of so many bytes
abbrev pub data_iuc : Config → ℕ → ℕ
data_iuc c bytes = if is_short c bytes then short_iuc c else long_iuc c

-- the usage code of a data grant of as many bytes as so many minislots carry: long where they carry none
abbrev pub full_iuc : Config → ℕ → ℕ
full_iuc c slots = if bytes_in c slots == 0 then long_iuc c else data_iuc c (bytes_in c slots)

-- the usage code of an unsolicited grant of so many bytes
abbrev pub unsolicited_iuc : Config → ℕ → ℕ
unsolicited_iuc c bytes = if c.phy == 1 then ADVANCED_UNSOLICITED_GRANT else data_iuc c bytes
