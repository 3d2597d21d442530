-- Worked payloads: the spelling of a frame with a grant, and the faults of bytes that are none.
use Rattle.std.proofs.Common.{◌≡◌, ℕ, List, [], ◌∷◌, ◌++◌, take, Some, refl}
use Rattle.map_codec.specs.declared.wire_map.WireMap.{WireMap}
use Rattle.map_codec.specs.declared.fault.DecodeFault.TheVariants.{Short, TooMany, Expansion}
use Rattle.map_codec.specs.declared.fault.DecodeFault.TheVariants.{Descending, NoNull, SecondNull}
use Rattle.map_codec.specs.declared.element.iuc.TheConstants.{REQUEST, LONG_DATA_GRANT, NULL}
use Rattle.map_codec.specs.Element.{elements_in}
use Rattle.map_codec.specs.WireMap.{header, spelling, map_in}
use Rattle.map_codec.specs.DecodeFault.{least, elements_fault, fault_of}

-- a request region of 4 minislots, 9 minislots for SID 17, idle minislots, and the Null at 40
abbrev pub one_grant : WireMap
one_grant =
    record {
      channel = 3;
      ucd_count = 1;
      reserved = 0;
      alloc_start = 840;
      ack = 800;
      ranging_start = 0;
      ranging_end = 0;
      data_start = 0;
      data_end = 0;
      elements =
          record { sid = 0x3fff; iuc = REQUEST; offset = 0 }
          ∷ record { sid = 17; iuc = LONG_DATA_GRANT; offset = 4 }
          ∷ record { sid = 0; iuc = LONG_DATA_GRANT; offset = 13 }
          ∷ record { sid = 0; iuc = NULL; offset = 40 }
          ∷ [];
    }

-- its 32 bytes
abbrev pub one_grant_bytes : List ℕ
one_grant_bytes =
    (0x03 ∷ 0x01 ∷ 0x04 ∷ 0x00 ∷ [])
    ++ (0x00 ∷ 0x00 ∷ 0x03 ∷ 0x48 ∷ 0x00 ∷ 0x00 ∷ 0x03 ∷ 0x20 ∷ 0x00 ∷ 0x00 ∷ 0x00 ∷ 0x00 ∷ [])
    ++ (0xff ∷ 0xfc ∷ 0x40 ∷ 0x00 ∷ 0x00 ∷ 0x45 ∷ 0x80 ∷ 0x04 ∷ [])
    ++ (0x00 ∷ 0x01 ∷ 0x80 ∷ 0x0d ∷ 0x00 ∷ 0x01 ∷ 0xc0 ∷ 0x28 ∷ [])

-- they are its spelling
pub one_grant_is_spelled : spelling one_grant ≡ one_grant_bytes
unfolding spelling header
one_grant_is_spelled = refl

-- and it is what is read in them
pub one_grant_is_read : map_in one_grant_bytes ≡ one_grant
unfolding map_in elements_in
one_grant_is_read = refl

-- the fixed bytes of a payload of so many elements
abbrev pub before : ℕ → List ℕ
before count =
    (0x03 ∷ 0x01 ∷ count ∷ 0x00 ∷ [])
    ++ (0x00 ∷ 0x00 ∷ 0x03 ∷ 0x20 ∷ 0x00 ∷ 0x00 ∷ 0x03 ∷ 0x20 ∷ 0x00 ∷ 0x00 ∷ 0x00 ∷ 0x00 ∷ [])

-- 15 bytes are too short
pub fifteen_bytes_are_short : fault_of (take 15 (before 3)) ≡ Some Short
unfolding fault_of
fifteen_bytes_are_short = refl

-- a count of 241 is too many
pub a_count_of_241_is_too_many : fault_of (before 241) ≡ Some TooMany
unfolding fault_of
a_count_of_241_is_too_many = refl

-- an expansion is named
pub an_expansion_is_named :
    fault_of (before 2 ++ (0x00 ∷ 0x03 ∷ 0xc0 ∷ 0x00 ∷ 0x00 ∷ 0x01 ∷ 0xc0 ∷ 0x00 ∷ [])) ≡ Some (Expansion 0)
unfolding fault_of elements_fault elements_in least
an_expansion_is_named = refl

-- a Null that begins before the element before it is named
pub a_descending_null_is_named :
    fault_of (before 2 ++ (0x00 ∷ 0x01 ∷ 0x80 ∷ 0x05 ∷ 0x00 ∷ 0x01 ∷ 0xc0 ∷ 0x04 ∷ [])) ≡ Some (Descending 1)
unfolding fault_of elements_fault elements_in least
a_descending_null_is_named = refl

-- a second Null is named
pub a_second_null_is_named :
    fault_of (before 2 ++ (0x00 ∷ 0x01 ∷ 0xc0 ∷ 0x00 ∷ 0x00 ∷ 0x01 ∷ 0xc0 ∷ 0x00 ∷ [])) ≡ Some (SecondNull 1)
unfolding fault_of elements_fault elements_in least
a_second_null_is_named = refl

-- without a Null there is no payload
pub no_null_is_named :
    fault_of (before 2 ++ (0xff ∷ 0xfc ∷ 0x40 ∷ 0x00 ∷ 0x00 ∷ 0x01 ∷ 0x80 ∷ 0x04 ∷ [])) ≡ Some NoNull
unfolding fault_of elements_fault elements_in least
no_null_is_named = refl
