-- The numbers of the profile, that the definitions name by constants of the code.
use Rattle.std.proofs.Common.{◌≡◌, ℕ, refl}
use Rattle.map_codec.specs.declared.element.iuc.TheConstants.{REQUEST, REQUEST_DATA, INITIAL_MAINTENANCE}
use Rattle.map_codec.specs.declared.element.iuc.TheConstants.{STATION_MAINTENANCE, SHORT_DATA_GRANT}
use Rattle.map_codec.specs.declared.element.iuc.TheConstants.{LONG_DATA_GRANT, NULL, DATA_ACKNOWLEDGE}
use Rattle.map_codec.specs.declared.element.iuc.TheConstants.{ADVANCED_SHORT_DATA_GRANT}
use Rattle.map_codec.specs.declared.element.iuc.TheConstants.{ADVANCED_LONG_DATA_GRANT}
use Rattle.map_codec.specs.declared.element.iuc.TheConstants.{ADVANCED_UNSOLICITED_GRANT, EXPANSION}
use Rattle.map_codec.specs.declared.wire_map.TheConstants.{HEADER_BYTES, ELEMENT_BYTES}
use Rattle.map_codec.specs.declared.wire_map.TheConstants.{MAX_ELEMENTS, MAX_BYTES}

-- a constant is this number
abbrev Is : ℕ → ℕ → Type 0
Is constant number = constant ≡ number

-- the interval usage codes
pub the_usage_codes : Is REQUEST 1 × Is REQUEST_DATA 2 × Is INITIAL_MAINTENANCE 3 × Is STATION_MAINTENANCE 4
    × Is SHORT_DATA_GRANT 5 × Is LONG_DATA_GRANT 6 × Is NULL 7 × Is DATA_ACKNOWLEDGE 8
    × Is ADVANCED_SHORT_DATA_GRANT 9 × Is ADVANCED_LONG_DATA_GRANT 10 × Is ADVANCED_UNSOLICITED_GRANT 11
    × Is EXPANSION 15
the_usage_codes = (refl, refl, refl, refl, refl, refl, refl, refl, refl, refl, refl, refl)

-- the sizes of a payload
pub the_sizes : Is HEADER_BYTES 16 × Is ELEMENT_BYTES 4 × Is MAX_ELEMENTS 240 × Is MAX_BYTES 976
the_sizes = (refl, refl, refl, refl)
