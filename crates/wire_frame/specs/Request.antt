-- The request frames of modems, and the first fault of bytes that are none.
use Rattle.std.specs.Prelude.{◌≡◌, ℕ, suc, ◌-◌, ◌^◌, ◌<◌, Bool, true, false, ◌==◌, ◌||◌, nat_lt, if◌then◌else◌}
use Rattle.std.specs.Prelude.{List, [], ◌∷◌, ◌++◌, length, take, slice_index}
use Rattle.std.specs.Int.{w16, to_be_bytes, from_be_bytes, to_le_bytes, from_le_bytes}
use Rattle.wire_frame.specs.declared.request.Request.{Request}
use Rattle.wire_frame.specs.declared.request.Request.TheVariants.{Minislots, Queue}
use Rattle.wire_frame.specs.declared.request.RequestFault.{RequestFault}
use Rattle.wire_frame.specs.declared.request.RequestFault.TheVariants.{Length, Kind, Sid, Hcs}
use Rattle.wire_frame.specs.declared.request.TheConstants.{REQUEST, QUEUE_DEPTH_REQUEST}
use Rattle.wire_frame.specs.Checksum.{IsHcs}

-- the bytes of a request before its HCS: the kind, the number and the SID, each most significant byte first
abbrev pub request_header : Request → List ℕ
request_header (Minislots number sid) = REQUEST ∷ number ∷ to_be_bytes w16 sid
request_header (Queue number sid) = QUEUE_DEPTH_REQUEST ∷ to_be_bytes w16 number ++ to_be_bytes w16 sid

-- the number fits its bytes, and the SID its 14 bits
abbrev pub FitsRequest : Request → Type 0
FitsRequest (Minislots number sid) = (number < 2 ^ 8) × (sid < 2 ^ 14)
FitsRequest (Queue number sid) = (number < 2 ^ 16) × (sid < 2 ^ 14)

-- The frame of a request: its bytes, and their HCS with its low byte first
pub record IsRequestFrame (request : Request) (frame : List ℕ) : Type 0 where
  pub hcs : ℕ
  pub fits : FitsRequest request
  pub is_hcs : IsHcs (request_header request) hcs
  pub bytes : frame ≡ request_header request ++ to_le_bytes w16 hcs

-- a request frame has 6 bytes, a queue-depth request frame 7
abbrev pub has_length : List ℕ → Bool
has_length bytes = (length bytes == 6) || (length bytes == 7)

-- the first byte is that of the kind that has this length
abbrev pub has_kind : List ℕ → Bool
has_kind bytes = slice_index bytes 0 == (if length bytes == 6 then REQUEST else QUEUE_DEPTH_REQUEST)

-- the number of two bytes from a place on, most significant byte first
abbrev pub two_bytes : List ℕ → ℕ → ℕ
two_bytes bytes at = from_be_bytes w16 (slice_index bytes at ∷ slice_index bytes (suc at) ∷ [])

-- the same, least significant byte first
abbrev pub two_bytes_low_first : List ℕ → ℕ → ℕ
two_bytes_low_first bytes at = from_le_bytes w16 (slice_index bytes at ∷ slice_index bytes (suc at) ∷ [])

-- the upper two bits of the two bytes before the HCS are 0
abbrev pub has_sid : List ℕ → Bool
has_sid bytes = nat_lt (two_bytes bytes (length bytes - 4)) (2 ^ 14)

-- the last two bytes are the HCS of those before them
abbrev pub HasHcs : List ℕ → Type 0
HasHcs bytes = IsHcs (take (length bytes - 2) bytes) (two_bytes_low_first bytes (length bytes - 2))

-- which fault bytes have: the first of the four
abbrev pub IsRequestFault : List ℕ → RequestFault → Type 0
IsRequestFault bytes Length = has_length bytes ≡ false
IsRequestFault bytes Kind = (has_length bytes ≡ true) × (has_kind bytes ≡ false)
IsRequestFault bytes Sid = (has_length bytes ≡ true) × (has_kind bytes ≡ true) × (has_sid bytes ≡ false)
IsRequestFault bytes Hcs =
    (has_length bytes ≡ true) × (has_kind bytes ≡ true) × (has_sid bytes ≡ true) × ¬ (HasHcs bytes)

-- the request in bytes that are a frame
abbrev pub request_in : List ℕ → Request
request_in bytes =
    if length bytes == 6 then Minislots (slice_index bytes 1) (two_bytes bytes 2)
    else Queue (two_bytes bytes 1) (two_bytes bytes 3)
