-- What is shown of a whole frame: that of a MAP, or a request's.
use Rattle.std.specs.Prelude.{◌≡◌, ℕ, ◌⊎◌, true, false, List, [], ◌∷◌, ◌++◌, length, codes, Option}
use Rattle.std.specs.Prelude.{MatchResult, IsOkAnd}
use Rattle.std.specs.List.{flat_map}
use Rattle.std.specs.Io.KnownBytes.{Appends}
use Rattle.hex.specs.Hex.{decode_of, encode_lower}
use Rattle.map_codec.specs.declared.wire_map.WireMap.{WireMap}
use Rattle.map_codec.specs.WireMap.{spelling, IsWellFormed, IsPayload}
use Rattle.wire_frame.specs.declared.request.Request.{Request}
use Rattle.wire_frame.specs.declared.request.Request.TheVariants.{Minislots, Queue}
use Rattle.wire_frame.specs.declared.request.RequestFault.{RequestFault}
use Rattle.wire_frame.specs.declared.request.RequestFault.TheVariants as requests
use Rattle.wire_frame.specs.declared.heard.MapFrameFault.{MapFrameFault}
use Rattle.wire_frame.specs.declared.heard.MapFrameFault.TheVariants as maps
use Rattle.wire_frame.specs.Request.{IsRequestFrame, IsRequestFault, has_length}
use Rattle.wire_frame.specs.MapFrame.{IsMapFrame}
use Rattle.wire_frame.specs.Heard.{IsMapFrameFault}
use Rattle.decode_command.specs.Table.{labelled, shown_text, not_hex_line}
use Rattle.decode_command.specs.ExplainedFault.{PutsFault}

-- a kind, a SID and a number, each behind a space
unfoldable pub kind_line : List ℕ → ℕ → ℕ → List ℕ
kind_line kind sid number = labelled kind sid ++ labelled (codes " ") number ++ codes "\n"

-- the line of a request: its kind, its SID and its number
abbrev pub request_line : Request → List ℕ
request_line (Minislots number sid) = kind_line (codes "frame request ") sid number
request_line (Queue number sid) = kind_line (codes "frame queue ") sid number

-- a byte in hexadecimal behind a colon
unfoldable pub byte_text : ℕ → List ℕ
byte_text byte = codes ":" ++ encode_lower (byte ∷ [])

-- an address: its bytes in hexadecimal, with a colon between two
abbrev pub address_text : List ℕ → List ℕ
address_text [] = []
address_text (first ∷ bytes) = encode_lower (first ∷ []) ++ flat_map byte_text bytes

-- the line of a MAP's frame: the sender's address
unfoldable pub map_frame_line : List ℕ → List ℕ
map_frame_line address = codes "frame map " ++ address_text address ++ codes "\n"

-- the number of a fault of a request's frame among those of all frames: 1 length, 2 kind, 3 SID, 4 HCS, 5 CRC,
-- 6 management header
abbrev pub request_fault_number : RequestFault → ℕ
request_fault_number requests.Length = 1
request_fault_number requests.Kind = 2
request_fault_number requests.Sid = 3
request_fault_number requests.Hcs = 4

-- the number of a fault of a MAP's frame, among the same
abbrev pub map_frame_fault_number : MapFrameFault → ℕ
map_frame_fault_number maps.Length = 1
map_frame_fault_number maps.Kind = 2
map_frame_fault_number maps.Hcs = 4
map_frame_fault_number maps.Crc = 5
map_frame_fault_number maps.Header = 6

-- the line of a fault of a frame
unfoldable pub frame_fault_line : ℕ → List ℕ
frame_fault_line number = labelled (codes "fault frame ") number ++ codes "\n"

-- the bytes are a request's frame, and what was written is its line
pub record PutsRequest (bytes : List ℕ) (old new : Option (List ℕ)) : Type 0 where
  pub request : Request
  pub frame : IsRequestFrame request bytes
  pub written : Appends old new (request_line request)

-- the payload is a MAP's, and what was written is the address that it is from, and what is shown of the MAP
pub record PutsCarried (columns : Option ℕ) (address payload : List ℕ) (old new : Option (List ℕ)) : Type 0 where
  pub map : WireMap
  pub well_formed : IsWellFormed map
  pub spelled : payload ≡ spelling map
  pub written : Appends old new (map_frame_line address ++ shown_text columns map)

-- the bytes are the frame of a MAP, and what was written is the address that it is from, and what is shown of the MAP
pub record PutsMapFrame (columns : Option ℕ) (bytes : List ℕ) (old new : Option (List ℕ)) : Type 0 where
  pub address : List ℕ
  pub six : length address ≡ 6
  pub payload : List ℕ
  pub frame : IsMapFrame address payload bytes
  pub carried : PutsCarried columns address payload old new

-- the bytes are a frame of one kind or the other, and what was written shows it
abbrev pub PutsFrame : Option ℕ → List ℕ → Option (List ℕ) → Option (List ℕ) → Type 0
PutsFrame columns bytes old new = PutsRequest bytes old new ⊎ PutsMapFrame columns bytes old new

-- the bytes have the length of a request's frame and are none, and what was written is the first fault
pub record PutsRequestFault (bytes : List ℕ) (old new : Option (List ℕ)) : Type 0 where
  pub long : has_length bytes ≡ true
  pub fault : RequestFault
  pub is_fault : IsRequestFault bytes fault
  pub written : Appends old new (frame_fault_line (request_fault_number fault))

-- the bytes have another length and are no frame of a MAP's payload, and what was written is the first fault
pub record PutsMapFrameFault (bytes : List ℕ) (old new : Option (List ℕ)) : Type 0 where
  pub long : has_length bytes ≡ false
  pub fault : MapFrameFault
  pub is_fault : IsMapFrameFault bytes fault
  pub written : Appends old new (frame_fault_line (map_frame_fault_number fault))

-- the bytes are a frame whose payload is no MAP's, and what was written is the payload's first fault
pub record PutsPayloadFault (bytes : List ℕ) (old new : Option (List ℕ)) : Type 0 where
  pub address : List ℕ
  pub six : length address ≡ 6
  pub payload : List ℕ
  pub frame : IsMapFrame address payload bytes
  pub faulty : PutsFault false payload old new

-- the bytes are no frame that is shown, and what was written is the first fault
abbrev pub PutsFrameFault : List ℕ → Option (List ℕ) → Option (List ℕ) → Type 0
PutsFrameFault bytes old new =
    PutsRequestFault bytes old new ⊎ PutsMapFrameFault bytes old new ⊎ PutsPayloadFault bytes old new

-- the bytes are the frame of a payload of a MAP
pub record CarriesMap (bytes : List ℕ) : Type 0 where
  pub address : List ℕ
  pub six : length address ≡ 6
  pub payload : List ℕ
  pub frame : IsMapFrame address payload bytes
  pub is_payload : IsPayload payload

-- the bytes are a frame, of a request or of a MAP
abbrev pub IsFrame : List ℕ → Type 0
IsFrame bytes = ((request : Request) × IsRequestFrame request bytes) ⊎ CarriesMap bytes

-- the text is hexadecimal of a frame
abbrev pub IsHexOfFrame : List ℕ → Type 0
IsHexOfFrame text = IsOkAnd (decode_of text) IsFrame

-- the text is hexadecimal of a frame, and what was written is what is shown of it
abbrev pub ShowsFrame : Option ℕ → List ℕ → Option (List ℕ) → Option (List ℕ) → Type 0
ShowsFrame columns text old new = IsOkAnd (decode_of text) (λ bytes. PutsFrame columns bytes old new)

-- the text is hexadecimal of other bytes, and what was written is their fault; or it is not hexadecimal, and what was
-- written says so
abbrev pub ShowsFrameFault : List ℕ → Option (List ℕ) → Option (List ℕ) → Type 0
ShowsFrameFault text old new =
    MatchResult (decode_of text) (λ bytes. PutsFrameFault bytes old new) (λ _. Appends old new not_hex_line)
