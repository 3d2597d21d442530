-- The bursts of a channel as JSON: one line without spaces, with the keys of each object in ascending order.
use Rattle.std.specs.Prelude.{ℕ, ◌+◌, ◌==◌, Bool, if◌then◌else◌, List, [], ◌++◌, length, codes, decimal, slice_index}
use Rattle.std.specs.Prelude.{flat_map, Option, Some, None}
use Rattle.std.specs.List.{range_with_len}
use Rattle.minislots.specs.declared.config.Config.{Config}
use Rattle.minislots.specs.Units.{bytes_in}
use Rattle.bursts_command.specs.declared.channel.Channel.{Channel}
use Rattle.bursts_command.specs.declared.numbers.ByProfile.{ByProfile}
use Rattle.bursts_command.specs.declared.numbers.Burst.{Burst}
use Rattle.bursts_command.specs.Numbers.{burst_of, request_slots}

-- a comma before each item but the first
abbrev pub comma_before : ℕ → List ℕ
comma_before index = if index == 0 then [] else codes ","

-- a number behind its key
unfoldable pub labelled : List ℕ → ℕ → List ℕ
labelled label n = label ++ decimal n

-- the member of the minislots by each profile
unfoldable pub profiles_member : Option ByProfile → List ℕ
profiles_member None = []
profiles_member (Some by) =
    labelled (codes ",\"profiles\":{\"long\":") by.long ++ labelled (codes ",\"short\":") by.short
    ++ labelled (codes ",\"unsolicited\":") by.unsolicited ++ codes "}"

-- the member of the usage of a data grant, and the brace behind it
abbrev pub usage_member : Bool → List ℕ
usage_member short = if short then codes ",\"usage\":\"short\"}" else codes ",\"usage\":\"long\"}"

-- bursts of one size
unfoldable pub burst_object : Burst → List ℕ
burst_object b =
    labelled (codes "{\"bytes\":") b.bytes ++ labelled (codes ",\"efficiency\":") b.efficiency
    ++ labelled (codes ",\"minislots\":") b.slots ++ profiles_member b.by_profile ++ usage_member b.is_short

-- the burst at a place in a list of sizes, behind a comma
abbrev pub burst_item : Config → List ℕ → ℕ → List ℕ
burst_item c sizes index = comma_before index ++ burst_object (burst_of c (slice_index sizes index))

-- the most bytes of a data grant of so many minislots, behind a comma
abbrev pub capacity_item : Config → ℕ → List ℕ
capacity_item c slots = comma_before slots ++ decimal (bytes_in c slots)

-- the member of the minislots of requests of 6 and of 7 bytes
unfoldable pub request_of_both : ℕ → ℕ → List ℕ
request_of_both six seven =
    labelled (codes ",\"request\":{\"6\":") six ++ labelled (codes ",\"7\":") seven ++ codes "}"

-- it, where they are known
abbrev pub request_member : Option ℕ → Option ℕ → List ℕ
request_member (Some six) (Some seven) = request_of_both six seven
request_member (Some six) None = []
request_member None seven = []

-- the bursts of these sizes
unfoldable pub bursts_member : Config → List ℕ → List ℕ
bursts_member c sizes =
    codes "\"bursts\":[" ++ flat_map (burst_item c sizes) (range_with_len 0 (length sizes)) ++ codes "]"

-- the most bytes of data grants of none up to all minislots of a frame
unfoldable pub capacity_member : Config → List ℕ
capacity_member c =
    codes ",\"capacity\":[" ++ flat_map (capacity_item c) (range_with_len 0 (c.frame + 1)) ++ codes "]"

-- what is told of a channel's bursts of these sizes
unfoldable pub json_text : Channel → List ℕ → List ℕ
json_text channel sizes =
    codes "{" ++ bursts_member channel.config sizes ++ capacity_member channel.config
    ++ request_member (request_slots channel 6) (request_slots channel 7) ++ codes "}\n"
