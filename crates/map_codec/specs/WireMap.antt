-- The bytes of a MAP, and the MAPs that have bytes.
use Rattle.std.specs.Prelude.{◌≡◌, ℕ, ◌^◌, ◌<◌, ◌≤◌, List, [], ◌∷◌, ◌++◌, length, drop, slice_index}
use Rattle.std.specs.List.{flat_map, AllByRecursion}
use Rattle.std.specs.Int.{w32, to_be_bytes}
use Rattle.map_codec.specs.declared.wire_map.WireMap.{WireMap}
use Rattle.map_codec.specs.declared.wire_map.TheConstants.{HEADER_BYTES, MAX_ELEMENTS}
use Rattle.map_codec.specs.Element.{bytes_of, number_at, elements_in, IsInRange, nulls, Ascends}

-- the 16 fixed bytes; the third is the number of elements
unfoldable pub header : WireMap → List ℕ
header m =
    (m.channel ∷ m.ucd_count ∷ length m.elements ∷ m.reserved ∷ [])
    ++ to_be_bytes w32 m.alloc_start
    ++ to_be_bytes w32 m.ack
    ++ (m.ranging_start ∷ m.ranging_end ∷ m.data_start ∷ m.data_end ∷ [])

-- the one spelling of a MAP: the fixed bytes, and the four bytes of each element
unfoldable pub spelling : WireMap → List ℕ
spelling m = header m ++ flat_map bytes_of m.elements

-- the fields that the bytes of a payload hold, and the elements after them
unfoldable pub map_in : List ℕ → WireMap
map_in bytes =
    record {
      channel = slice_index bytes 0;
      ucd_count = slice_index bytes 1;
      reserved = slice_index bytes 3;
      alloc_start = number_at bytes 4;
      ack = number_at bytes 8;
      ranging_start = slice_index bytes 12;
      ranging_end = slice_index bytes 13;
      data_start = slice_index bytes 14;
      data_end = slice_index bytes 15;
      elements = elements_in (drop HEADER_BYTES bytes);
    }

-- the fields of the header fit their bytes
pub record FitsHeader (m : WireMap) : Type 0 where
  pub channel : m.channel < 2 ^ 8
  pub ucd_count : m.ucd_count < 2 ^ 8
  pub reserved : m.reserved < 2 ^ 8
  pub alloc_start : m.alloc_start < 2 ^ 32
  pub ack : m.ack < 2 ^ 32
  pub ranging_start : m.ranging_start < 2 ^ 8
  pub ranging_end : m.ranging_end < 2 ^ 8
  pub data_start : m.data_start < 2 ^ 8
  pub data_end : m.data_end < 2 ^ 8

-- a MAP that is well formed
pub record IsWellFormed (m : WireMap) : Type 0 where
  pub fits : FitsHeader m
  pub count : length m.elements ≤ MAX_ELEMENTS
  pub in_range : AllByRecursion IsInRange m.elements
  pub one_null : nulls m.elements ≡ 1
  pub ascends : Ascends m.elements

-- bytes that are a payload: the spelling of some well formed MAP
abbrev pub IsPayload : List ℕ → Type 0
IsPayload bytes = (m : WireMap) × IsWellFormed m × (bytes ≡ spelling m)

-- a spelling is that of one MAP
abbrev pub HasOneValue : Type 0
HasOneValue = (m n : WireMap) → IsWellFormed m → IsWellFormed n → spelling m ≡ spelling n → m ≡ n

-- what is read in a spelling is what was spelled
abbrev pub IsReadBack : Type 0
IsReadBack = (m : WireMap) → IsWellFormed m → map_in (spelling m) ≡ m
