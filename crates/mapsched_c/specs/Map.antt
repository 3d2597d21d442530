-- The payload of a MAP in plain numbers, and what is answered of bytes.
use Rattle.std.specs.Prelude.{◌≡◌, ℕ, ◌+◌, ◌⊎◌, ◌++◌, List, length, map, drop}
use Rattle.map_codec.specs.declared.element.Element.{Element}
use Rattle.map_codec.specs.declared.wire_map.WireMap.{WireMap}
use Rattle.map_codec.specs.declared.fault.DecodeFault.{DecodeFault}
use Rattle.map_codec.specs.declared.fault.DecodeFault.TheVariants.{Short, TooMany, WrongLength, Expansion, Descending}
use Rattle.map_codec.specs.declared.fault.DecodeFault.TheVariants.{NoNull, SecondNull, Memory}
use Rattle.map_codec.specs.WireMap.{spelling, IsWellFormed}
use Rattle.map_codec.specs.DecodeFault.{IsFaultOf}
use Rattle.mapsched_c.specs.declared.maps.PlainElement.{PlainElement}
use Rattle.mapsched_c.specs.declared.maps.PlainMap.{PlainMap}
use Rattle.mapsched_c.specs.declared.status.TheConstants.{OK, OUT_OF_MEMORY, BAD_PAYLOAD}

-- the numbers of an element
abbrev pub plain_element : Element → PlainElement
plain_element e = record { sid = e.sid; offset = e.offset; iuc = e.iuc }

-- a MAP, over what stood there: its elements stand at the front, and the rest stays
abbrev pub plain_map : PlainMap → WireMap → PlainMap
plain_map old m = record {
  alloc_start = m.alloc_start;
  ack = m.ack;
  count = length m.elements;
  channel = m.channel;
  ucd_count = m.ucd_count;
  reserved = m.reserved;
  ranging_start = m.ranging_start;
  ranging_end = m.ranging_end;
  data_start = m.data_start;
  data_end = m.data_end;
  elements = map plain_element m.elements ++ drop (length m.elements) old.elements;
}

-- the status of a fault
abbrev pub fault_status : DecodeFault → ℕ
fault_status Short = BAD_PAYLOAD + 1
fault_status TooMany = BAD_PAYLOAD + 2
fault_status WrongLength = BAD_PAYLOAD + 3
fault_status (Expansion i) = BAD_PAYLOAD + 4
fault_status (Descending i) = BAD_PAYLOAD + 5
fault_status NoNull = BAD_PAYLOAD + 6
fault_status (SecondNull i) = BAD_PAYLOAD + 7
fault_status Memory = OUT_OF_MEMORY

-- the element that a fault names, or what stood there
abbrev pub fault_element : ℕ → DecodeFault → ℕ
fault_element untold Short = untold
fault_element untold TooMany = untold
fault_element untold WrongLength = untold
fault_element untold (Expansion i) = i
fault_element untold (Descending i) = i
fault_element untold NoNull = untold
fault_element untold (SecondNull i) = i
fault_element untold Memory = untold

-- the bytes are the spelling of a MAP, which is written
pub record IsRead (bytes : List ℕ) (before after : PlainMap) : Type 0 where
  pub wire : WireMap
  pub well_formed : IsWellFormed wire
  pub spelled : bytes ≡ spelling wire
  pub written : after ≡ plain_map before wire

-- the bytes have a fault, or memory ran out, and nothing is written but the element that the fault names
pub record IsFaulty (bytes : List ℕ) (status untold told : ℕ) : Type 0 where
  pub fault : DecodeFault
  pub fault_is : IsFaultOf bytes fault
  pub status_is : status ≡ fault_status fault
  pub told_is : told ≡ fault_element untold fault

-- bytes are read, or why not
abbrev pub Decodes : List ℕ → ℕ → PlainMap → PlainMap → ℕ → ℕ → Type 0
Decodes bytes status before after untold told = ((status ≡ OK) × IsRead bytes before after × (told ≡ untold))
    ⊎ (IsFaulty bytes status untold told × (after ≡ before))
