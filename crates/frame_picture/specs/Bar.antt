-- The bars of a MAP: what is drawn of its allocations, and where.
use Rattle.std.specs.Prelude.{ℕ, ◌+◌, ◌*◌, ◌<◌, ◌≤◌, ◌↔◌, ◌&&◌, not, Bool, true, false, List, map, get_or}
use Rattle.std.specs.List.{range_with_len}
use Rattle.map_codec.specs.declared.element.Element.{Element}
use Rattle.map_codec.specs.Element.{element_at}
use Rattle.map_drawing.specs.Allocation.{front_length, allocation_at}
use Rattle.map_drawing.specs.Rows.{HasSlot}
use Rattle.map_drawing.specs.Usage.{element_usage}
use Rattle.map_drawing.specs.declared.usage.ElementUsage.{ElementUsage}
use Rattle.map_drawing.specs.declared.usage.ElementUsage.TheVariants.{RequestRegion, Poll, RequestData, DataAcknowledge}
use Rattle.map_drawing.specs.declared.usage.ElementUsage.TheVariants.{InitialMaintenance, StationMaintenance}
use Rattle.map_drawing.specs.declared.usage.ElementUsage.TheVariants.{ShortGrant, LongGrant, Idle, Null}
use Rattle.map_drawing.specs.declared.usage.ElementUsage.TheVariants.{AdvancedShortGrant, AdvancedLongGrant}
use Rattle.map_drawing.specs.declared.usage.ElementUsage.TheVariants.{AdvancedUnsolicitedGrant, Reserved}
use Rattle.map_build.specs.declared.met.Met.{Met}
use Rattle.map_build.specs.Reading.{meets_at}
use Rattle.frame_picture.specs.declared.bar.Bar.{Bar}

-- whether the usage code is one of a channel without Advanced PHY for all grants, unsolicited ones among them
unfoldable pub is_plain_grant : ElementUsage → Bool
is_plain_grant RequestRegion = false
is_plain_grant Poll = false
is_plain_grant RequestData = false
is_plain_grant InitialMaintenance = false
is_plain_grant StationMaintenance = false
is_plain_grant ShortGrant = true
is_plain_grant LongGrant = true
is_plain_grant Idle = false
is_plain_grant Null = false
is_plain_grant DataAcknowledge = false
is_plain_grant AdvancedShortGrant = false
is_plain_grant AdvancedLongGrant = false
is_plain_grant AdvancedUnsolicitedGrant = false
is_plain_grant Reserved = false

-- the bar of the allocation at a place, to a flow that is unsolicited or not, where an opportunity is met or not: it
-- begins at the allocation's offset, and is as wide as the allocation is long
abbrev pub bar_with : ℕ → List Element → List ℕ → ℕ → Bool → Bool → Bar
bar_with units es bytes i unsolicited met =
    let a = allocation_at es i in
    record {
      allocation = a;
      usage = element_usage a.sid a.iuc;
      unsolicited = (not met && unsolicited) && is_plain_grant (element_usage a.sid a.iuc);
      met = met;
      x = units * a.offset;
      width = units * a.length;
      bytes = get_or bytes i 0;
    }

-- the bar of the allocation at a place, where these SIDs' flows are unsolicited and these opportunities are met: which
-- is told by where it begins
abbrev pub bar_at : ℕ → (ℕ → Bool) → List Met → List Element → List ℕ → ℕ → Bar
bar_at units unsolicited met es bytes i =
    bar_with units es bytes i (unsolicited (element_at es i).sid) (meets_at met (element_at es i).offset)

-- the bars of a MAP: one for each allocation, in their order
abbrev pub bars_of : ℕ → (ℕ → Bool) → List Met → List Element → List ℕ → List Bar
bars_of units unsolicited met es bytes =
    map (bar_at units unsolicited met es bytes) (range_with_len 0 (front_length es))

-- a point of a row stands under a bar
pub record IsUnder (b : Bar) (x : ℕ) : Type 0 where
  pub begins : b.x ≤ x
  pub ends : x < b.x + b.width

-- a minislot stands under the bar of the allocation that has it, and under no other
abbrev pub StandsAtItsSlots : Type 0
StandsAtItsSlots =
    (units : ℕ) → 0 < units → (unsolicited : ℕ → Bool) (met : List Met) (es : List Element) (bytes : List ℕ)
    → (i slot : ℕ) → (HasSlot es i slot ↔ IsUnder (bar_at units unsolicited met es bytes i) (units * slot))
