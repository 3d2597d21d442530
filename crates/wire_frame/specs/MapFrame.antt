-- The MAC management message of a MAP, as a downstream channel carries it.
use Rattle.std.specs.Prelude.{◌≡◌, ℕ, ◌+◌, ◌-◌, ◌^◌, ◌<◌, ◌↔◌, List, [], ◌∷◌, ◌++◌, length}
use Rattle.std.specs.Int.{w16, w32, to_be_bytes, to_le_bytes}
use Rattle.map_codec.specs.declared.wire_map.WireMap.{WireMap}
use Rattle.map_codec.specs.WireMap.{spelling, IsWellFormed}
use Rattle.wire_frame.specs.declared.tables.TheConstants.{CCITT, ETHERNET}
use Rattle.wire_frame.specs.Checksum.{IsHcs, IsCrc}
use Rattle.wire_frame.specs.Register.{after_bytes}

-- the address to which MAPs go: all modems
abbrev pub all_modems : List ℕ
all_modems = 0x01 ∷ 0xE0 ∷ 0x2F ∷ 0x00 ∷ 0x00 ∷ 0x01 ∷ []

-- DSAP 0, SSAP 0, control 3; version 1, type 3, which is a MAP, and a reserved byte
abbrev pub map_type : List ℕ
map_type = 0x00 ∷ 0x00 ∷ 0x03 ∷ 0x01 ∷ 0x03 ∷ 0x00 ∷ []

-- a management message before its CRC: the receivers, the sender, the number of bytes from the next one to the
-- payload's end, what message it is, and the payload
abbrev pub message : List ℕ → List ℕ → List ℕ
message address payload =
    all_modems ++ address ++ to_be_bytes w16 (length map_type + length payload) ++ map_type ++ payload

-- the MAC header before its HCS: a management message, no parameter, and the number of bytes behind the HCS, the four
-- of the CRC among them
abbrev pub mac_header : List ℕ → List ℕ
mac_header behind = 0xC2 ∷ 0x00 ∷ to_be_bytes w16 (length behind + 4)

-- The frame of a MAP's payload from an address: the MAC header and its HCS, the message and its CRC, each checksum
-- with its low byte first
pub record IsMapFrame (address payload frame : List ℕ) : Type 0 where
  pub hcs : ℕ
  pub crc : ℕ
  pub fits : length (message address payload) + 4 < 2 ^ 16
  pub is_hcs : IsHcs (mac_header (message address payload)) hcs
  pub is_crc : IsCrc (message address payload) crc
  pub bytes : frame
      ≡ (mac_header (message address payload) ++ to_le_bytes w16 hcs)
      ++ (message address payload ++ to_le_bytes w32 crc)

-- the HCS of a header as a function of its bytes; EachHasOneFrame says that this and the CRC are the remainders
abbrev pub hcs_of : List ℕ → ℕ
hcs_of bytes = 2 ^ 16 - 1 - after_bytes CCITT (2 ^ 16 - 1) bytes

-- the CRC of a message as a function of its bytes
abbrev pub crc_of : List ℕ → ℕ
crc_of bytes = 2 ^ 32 - 1 - after_bytes ETHERNET (2 ^ 32 - 1) bytes

-- the frame as a function, for texts that are made of many
unfoldable pub frame_of_map : List ℕ → List ℕ → List ℕ
frame_of_map address payload =
    (mac_header (message address payload) ++ to_le_bytes w16 (hcs_of (mac_header (message address payload))))
    ++ (message address payload ++ to_le_bytes w32 (crc_of (message address payload)))

-- a payload that fits has one frame from an address, which is that function's value
abbrev pub EachHasOneFrame : Type 0
EachHasOneFrame =
    (address payload frame : List ℕ)
    → length (message address payload) + 4 < 2 ^ 16
    → (IsMapFrame address payload frame ↔ frame ≡ frame_of_map address payload)

-- and a frame is of one address, of six bytes, and of one payload
abbrev pub EachIsOfOneMap : Type 0
EachIsOfOneMap =
    (address payload another other frame : List ℕ)
    → length address ≡ 6 → length another ≡ 6
    → IsMapFrame address payload frame → IsMapFrame another other frame
    → (another ≡ address) × (other ≡ payload)

-- the spelling of a well formed MAP is never too long: from each address of six bytes it has a frame, which is that
-- function's value
abbrev pub EachMapHasItsFrame : Type 0
EachMapHasItsFrame =
    (m : WireMap) (address : List ℕ)
    → IsWellFormed m → length address ≡ 6
    → IsMapFrame address (spelling m) (frame_of_map address (spelling m))
