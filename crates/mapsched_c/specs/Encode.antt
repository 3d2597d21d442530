-- The MAP of plain numbers, and what is answered of it.
use Rattle.std.specs.Prelude.{◌≡◌, ℕ, ◌+◌, ◌⊎◌, List, map, take, nat_lt, if◌then◌else◌, Option, Some, MatchOption}
use Rattle.map_codec.specs.declared.element.Element.{Element}
use Rattle.map_codec.specs.declared.wire_map.WireMap.{WireMap}
use Rattle.map_codec.specs.declared.wire_map.TheConstants.{MAX_ELEMENTS}
use Rattle.map_codec.specs.declared.map_fault.MapFault.{MapFault}
use Rattle.map_codec.specs.declared.map_fault.MapFault.TheVariants.{TooMany, OutOfRange, Descending, NoNull, SecondNull}
use Rattle.map_codec.specs.WireMap.{spelling, IsWellFormed}
use Rattle.map_codec.specs.MapFault.{map_fault}
use Rattle.mapsched_c.specs.declared.maps.PlainElement.{PlainElement}
use Rattle.mapsched_c.specs.declared.maps.PlainMap.{PlainMap}
use Rattle.mapsched_c.specs.declared.status.TheConstants.{OUT_OF_MEMORY, BAD_MAP}
use Rattle.mapsched_c.specs.Text.{GivesText}

-- the element of these numbers
abbrev pub wire_element : PlainElement → Element
wire_element e = record { sid = e.sid; iuc = e.iuc; offset = e.offset }

-- the MAP of these numbers: so many elements as are counted
abbrev pub wire_map : PlainMap → WireMap
wire_map p = record {
  channel = p.channel;
  ucd_count = p.ucd_count;
  reserved = p.reserved;
  alloc_start = p.alloc_start;
  ack = p.ack;
  ranging_start = p.ranging_start;
  ranging_end = p.ranging_end;
  data_start = p.data_start;
  data_end = p.data_end;
  elements = map wire_element (take p.count p.elements);
}

-- the first fault of the numbers of a MAP: more elements are counted than there can be, or the MAP's own
abbrev pub plain_fault : PlainMap → Option MapFault
plain_fault p = if nat_lt MAX_ELEMENTS p.count then Some TooMany else map_fault (wire_map p)

-- the status of a fault
abbrev pub map_status : MapFault → ℕ
map_status TooMany = BAD_MAP + 1
map_status (OutOfRange i) = BAD_MAP + 2
map_status (Descending i) = BAD_MAP + 3
map_status NoNull = BAD_MAP + 4
map_status (SecondNull i) = BAD_MAP + 5

-- the element that a fault names, or what stood there
abbrev pub map_element : ℕ → MapFault → ℕ
map_element untold TooMany = untold
map_element untold (OutOfRange i) = i
map_element untold (Descending i) = i
map_element untold NoNull = untold
map_element untold (SecondNull i) = i

-- the bytes of a well formed MAP stand in the room, or there is no room for them, and their number is told
pub record IsSpelled (m : WireMap) (status : ℕ) (before after : List ℕ) (told : ℕ) : Type 0 where
  pub well_formed : IsWellFormed m
  pub given : GivesText (spelling m) status before after told

-- a MAP with a fault is not spelled
pub record IsFaultyMap (fault : MapFault) (status : ℕ) (before after : List ℕ) (untold told old new : ℕ) : Type 0 where
  pub status_is : status ≡ map_status fault
  pub room_is : after ≡ before
  pub told_is : told ≡ untold
  pub element_is : new ≡ map_element old fault

-- the numbers of a MAP are spelled, or their first fault is told, or memory ran out and nothing is written
abbrev pub Encodes : PlainMap → ℕ → List ℕ → List ℕ → ℕ → ℕ → ℕ → ℕ → Type 0
Encodes p status before after untold told old new =
    MatchOption (plain_fault p) (IsSpelled (wire_map p) status before after told × (new ≡ old))
    (λ fault. IsFaultyMap fault status before after untold told old new)
    ⊎ ((status ≡ OUT_OF_MEMORY) × (after ≡ before) × (told ≡ untold) × (new ≡ old))
