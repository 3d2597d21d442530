-- Bytes that are heard on a downstream channel: the tests of a MAP's frame, and the first fault of bytes that are none.
use Rattle.std.specs.Prelude.{◌≡◌, ℕ, ◌-◌, Bool, true, false, ◌==◌, ◌&&◌, nat_lt, not}
use Rattle.std.specs.Prelude.{List, length, take, drop, slice_index}
use Rattle.std.specs.Int.{w16, w32, to_be_bytes, to_le_bytes}
use Rattle.wire_frame.specs.declared.framing.TheConstants.{OVERHEAD}
use Rattle.wire_frame.specs.declared.heard.MapFrameFault.{MapFrameFault}
use Rattle.wire_frame.specs.declared.heard.MapFrameFault.TheVariants.{Length, Kind, Hcs, Crc, Header}
use Rattle.wire_frame.specs.Checksum.{IsHcs, IsCrc}
use Rattle.wire_frame.specs.MapFrame.{all_modems, map_type}
use Rattle.wire_frame.specs.Request.{two_bytes}

-- there are at least the bytes around a payload, and as many behind the HCS as the MAC header says
abbrev pub has_all_bytes : List ℕ → Bool
has_all_bytes bytes = not (nat_lt (length bytes) OVERHEAD) && (two_bytes bytes 2 == length bytes - 6)

-- the MAC header is that of a management message, without a parameter
abbrev pub is_management : List ℕ → Bool
is_management bytes = (slice_index bytes 0 == 0xC2) && (slice_index bytes 1 == 0x00)

-- the two bytes behind the first four are the HCS of these
pub record HasHeaderSum (bytes : List ℕ) : Type 0 where
  pub sum : ℕ
  pub is_hcs : IsHcs (take 4 bytes) sum
  pub stands : take 2 (drop 4 bytes) ≡ to_le_bytes w16 sum

-- the last four bytes are the CRC of those between the HCS and them
pub record HasMessageSum (bytes : List ℕ) : Type 0 where
  pub sum : ℕ
  pub is_crc : IsCrc (take (length bytes - 4 - 6) (drop 6 bytes)) sum
  pub stands : drop (length bytes - 4) bytes ≡ to_le_bytes w32 sum

-- The management header is that of a MAP of this length: it goes to all modems, says how many bytes stand between its
-- own length and the CRC, and what message it is
pub record HasMapHeader (bytes : List ℕ) : Type 0 where
  pub receivers : take 6 (drop 6 bytes) ≡ all_modems
  pub long : take 2 (drop 18 bytes) ≡ to_be_bytes w16 (length bytes - 24)
  pub what : take 6 (drop 20 bytes) ≡ map_type

-- what is right before each test
abbrev pub IsBegun : List ℕ → Type 0
IsBegun bytes = (has_all_bytes bytes ≡ true) × (is_management bytes ≡ true)

-- both checksums are right too
abbrev pub HasSums : List ℕ → Type 0
HasSums bytes = IsBegun bytes × HasHeaderSum bytes × HasMessageSum bytes

-- which fault bytes have: the first of the five
abbrev pub IsMapFrameFault : List ℕ → MapFrameFault → Type 0
IsMapFrameFault bytes Length = has_all_bytes bytes ≡ false
IsMapFrameFault bytes Kind = (has_all_bytes bytes ≡ true) × (is_management bytes ≡ false)
IsMapFrameFault bytes Hcs = IsBegun bytes × ¬ (HasHeaderSum bytes)
IsMapFrameFault bytes Crc = IsBegun bytes × HasHeaderSum bytes × ¬ (HasMessageSum bytes)
IsMapFrameFault bytes Header = HasSums bytes × ¬ (HasMapHeader bytes)
