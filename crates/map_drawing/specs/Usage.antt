-- What an allocation is for, and its words.
use Rattle.std.specs.Prelude.{ℕ, ◌==◌, if◌then◌else◌, List, codes}
use Rattle.map_codec.specs.declared.element.iuc.TheConstants.{REQUEST, REQUEST_DATA, INITIAL_MAINTENANCE}
use Rattle.map_codec.specs.declared.element.iuc.TheConstants.{STATION_MAINTENANCE, SHORT_DATA_GRANT, LONG_DATA_GRANT}
use Rattle.map_codec.specs.declared.element.iuc.TheConstants.{NULL, DATA_ACKNOWLEDGE, ADVANCED_SHORT_DATA_GRANT}
use Rattle.map_codec.specs.declared.element.iuc.TheConstants.{ADVANCED_LONG_DATA_GRANT, ADVANCED_UNSOLICITED_GRANT}
use Rattle.map_drawing.specs.declared.usage.TheConstants.{ALL_MODEMS}
use Rattle.map_drawing.specs.declared.usage.ElementUsage.{ElementUsage}
use Rattle.map_drawing.specs.declared.usage.ElementUsage.TheVariants.{RequestRegion, Poll, RequestData, DataAcknowledge}
use Rattle.map_drawing.specs.declared.usage.ElementUsage.TheVariants.{InitialMaintenance, StationMaintenance}
use Rattle.map_drawing.specs.declared.usage.ElementUsage.TheVariants.{ShortGrant, LongGrant, Idle, Null}
use Rattle.map_drawing.specs.declared.usage.ElementUsage.TheVariants.{AdvancedShortGrant, AdvancedLongGrant}
use Rattle.map_drawing.specs.declared.usage.ElementUsage.TheVariants.{AdvancedUnsolicitedGrant, Reserved}

-- what an element with this service identifier and interval usage code allocates: a request region that is not for
-- all modems is a poll, a grant to none is idle
unfoldable pub element_usage : ℕ → ℕ → ElementUsage
element_usage sid iuc =
    if iuc == REQUEST then if sid == ALL_MODEMS then RequestRegion else Poll
    else if iuc == REQUEST_DATA then RequestData
    else if iuc == INITIAL_MAINTENANCE then InitialMaintenance
    else if iuc == STATION_MAINTENANCE then StationMaintenance
    else if iuc == SHORT_DATA_GRANT then if sid == 0 then Idle else ShortGrant
    else if iuc == LONG_DATA_GRANT then if sid == 0 then Idle else LongGrant
    else if iuc == NULL then Null
    else if iuc == DATA_ACKNOWLEDGE then DataAcknowledge
    else if iuc == ADVANCED_SHORT_DATA_GRANT then if sid == 0 then Idle else AdvancedShortGrant
    else if iuc == ADVANCED_LONG_DATA_GRANT then if sid == 0 then Idle else AdvancedLongGrant
    else if iuc == ADVANCED_UNSOLICITED_GRANT then AdvancedUnsolicitedGrant
    else Reserved

-- the words of a usage
unfoldable pub words_of : ElementUsage → List ℕ
words_of RequestRegion = codes "request region"
words_of Poll = codes "poll"
words_of RequestData = codes "request/data"
words_of InitialMaintenance = codes "initial maintenance"
words_of StationMaintenance = codes "station maintenance"
words_of ShortGrant = codes "short data grant"
words_of LongGrant = codes "long data grant"
words_of Idle = codes "idle"
words_of Null = codes "null"
words_of DataAcknowledge = codes "data acknowledge"
words_of AdvancedShortGrant = codes "advanced short data grant"
words_of AdvancedLongGrant = codes "advanced long data grant"
words_of AdvancedUnsolicitedGrant = codes "advanced unsolicited grant"
words_of Reserved = codes "reserved"
