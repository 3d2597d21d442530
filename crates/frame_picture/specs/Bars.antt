-- The text of a bar.
use Rattle.std.specs.Prelude.{ℕ, ◌+◌, Bool, true, false, nat_le, nat_lt, if◌then◌else◌, List, [], ◌++◌, codes}
use Rattle.std.specs.Prelude.{flat_map}
use Rattle.map_codec.specs.declared.element.Element.{Element}
use Rattle.map_drawing.specs.declared.usage.ElementUsage.{ElementUsage}
use Rattle.map_drawing.specs.declared.usage.ElementUsage.TheVariants.{RequestRegion, Poll, RequestData, DataAcknowledge}
use Rattle.map_drawing.specs.declared.usage.ElementUsage.TheVariants.{InitialMaintenance, StationMaintenance}
use Rattle.map_drawing.specs.declared.usage.ElementUsage.TheVariants.{ShortGrant, LongGrant, Idle, Null}
use Rattle.map_drawing.specs.declared.usage.ElementUsage.TheVariants.{AdvancedShortGrant, AdvancedLongGrant}
use Rattle.map_drawing.specs.declared.usage.ElementUsage.TheVariants.{AdvancedUnsolicitedGrant, Reserved}
use Rattle.map_build.specs.declared.met.Met.{Met}
use Rattle.map_drawing.specs.Usage.{words_of}
use Rattle.frame_picture.specs.declared.bar.Bar.{Bar}
use Rattle.frame_picture.specs.Labelled.{labelled}
use Rattle.frame_picture.specs.Shade.{shade_of}
use Rattle.frame_picture.specs.OpenIdle.{is_open_idle}
use Rattle.frame_picture.specs.Bar.{bars_of}

-- the name of the colour and the pattern of a usage
unfoldable pub usage_look : ElementUsage → List ℕ
usage_look RequestRegion = codes "region"
usage_look Poll = codes "poll"
usage_look RequestData = codes "other"
usage_look InitialMaintenance = codes "ranging"
usage_look StationMaintenance = codes "ranging"
usage_look ShortGrant = codes "short"
usage_look LongGrant = codes "long"
usage_look Idle = codes "idle"
usage_look Null = codes "other"
usage_look DataAcknowledge = codes "other"
usage_look AdvancedShortGrant = codes "short"
usage_look AdvancedLongGrant = codes "long"
usage_look AdvancedUnsolicitedGrant = codes "unsolicited"
usage_look Reserved = codes "other"

-- the name of the colour and the pattern of an opportunity that was reserved, by the usage that its element reads like
unfoldable pub met_look : ElementUsage → List ℕ
met_look RequestRegion = codes "request"
met_look Poll = codes "request"
met_look InitialMaintenance = codes "ranging"
met_look StationMaintenance = codes "ranging"
met_look Idle = codes "quiet"
met_look RequestData = codes "data"
met_look ShortGrant = codes "data"
met_look LongGrant = codes "data"
met_look Null = codes "data"
met_look DataAcknowledge = codes "data"
met_look AdvancedShortGrant = codes "data"
met_look AdvancedLongGrant = codes "data"
met_look AdvancedUnsolicitedGrant = codes "data"
met_look Reserved = codes "data"

-- its words
unfoldable pub met_words : ElementUsage → List ℕ
met_words RequestRegion = codes "request opportunity"
met_words Poll = codes "request opportunity"
met_words InitialMaintenance = codes "initial maintenance"
met_words StationMaintenance = codes "station maintenance"
met_words Idle = codes "quiet window"
met_words RequestData = codes "data opportunity"
met_words ShortGrant = codes "data opportunity"
met_words LongGrant = codes "data opportunity"
met_words Null = codes "data opportunity"
met_words DataAcknowledge = codes "data opportunity"
met_words AdvancedShortGrant = codes "data opportunity"
met_words AdvancedLongGrant = codes "data opportunity"
met_words AdvancedUnsolicitedGrant = codes "data opportunity"
met_words Reserved = codes "data opportunity"

-- the name of the colour and the pattern of a bar: what is met there goes before what its element reads like
unfoldable pub look_of : Bar → List ℕ
look_of b =
    if b.met then met_look b.usage
    else if b.unsolicited then codes "unsolicited"
    else if is_open_idle b.allocation then codes "open"
    else usage_look b.usage

-- the words of a bar: where nothing is met, and all modems may ask behind the request region, it is an idle
unfoldable pub words_in : Bar → List ℕ
words_in b =
    if b.met then met_words b.usage
    else if is_open_idle b.allocation then codes "open idle"
    else words_of b.usage

-- what a bar says before the words of its usage
unfoldable pub origin_of : Bar → List ℕ
origin_of b = if b.unsolicited then codes "unsolicited " else []

-- a bar bears its SID and has its shade where that is not the one of all modems or of none
unfoldable pub is_named : ElementUsage → Bool
is_named RequestRegion = false
is_named Poll = true
is_named RequestData = true
is_named InitialMaintenance = true
is_named StationMaintenance = true
is_named ShortGrant = true
is_named LongGrant = true
is_named Idle = false
is_named Null = true
is_named DataAcknowledge = true
is_named AdvancedShortGrant = true
is_named AdvancedLongGrant = true
is_named AdvancedUnsolicitedGrant = true
is_named Reserved = true

-- how many units an SID takes in a bar
unfoldable pub name_width : ℕ → ℕ
name_width sid =
    if nat_lt sid 10 then 12
    else if nat_lt sid 100 then 20
    else if nat_lt sid 1000 then 28
    else if nat_lt sid 10000 then 36
    else 44

-- the name of a bar's shade
unfoldable pub shade_text : Bar → List ℕ
shade_text b = if is_named b.usage then labelled (codes " s") (shade_of b.allocation.sid) else []

-- the box of a bar
unfoldable pub box_text : Bar → List ℕ
box_text b =
    codes "<rect class='" ++ (look_of b ++ (shade_text b ++ (labelled (codes "' x='") b.x
    ++ (labelled (codes "' width='") b.width ++ codes "' height='20'>"))))

-- what a bar says of its allocation
unfoldable pub title_text : Bar → List ℕ
title_text b =
    labelled (codes "<title>SID ") b.allocation.sid ++ (codes ", " ++ (origin_of b ++ (words_in b
    ++ (labelled (codes ", offset ") b.allocation.offset ++ (labelled (codes ", length ") b.allocation.length
    ++ (labelled (codes ", bytes requested ") b.bytes ++ codes "</title></rect>\n"))))))

-- the SID on a bar that is wide enough
unfoldable pub name_text : Bar → List ℕ
name_text b =
    if is_named b.usage then
    if nat_le (name_width b.allocation.sid) b.width then
    labelled (codes "<text class='sid' x='") (b.x + 4)
    ++ (labelled (codes "' y='15'>") b.allocation.sid ++ codes "</text>\n")
    else []
    else []

-- a bar
unfoldable pub bar_text : Bar → List ℕ
bar_text b = box_text b ++ (title_text b ++ name_text b)

-- the bars of a MAP with these elements and byte counts, where these SIDs' flows are unsolicited and these
-- opportunities are met
abbrev pub bars_text : ℕ → (ℕ → Bool) → List Met → List Element → List ℕ → List ℕ
bars_text units unsolicited met es bytes = flat_map bar_text (bars_of units unsolicited met es bytes)
