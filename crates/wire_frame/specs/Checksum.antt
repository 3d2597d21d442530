-- The two checksums of a frame: the header check sequence (HCS) and Ethernet's CRC-32.
use Rattle.std.specs.Prelude.{◌≡◌, ℕ, ◌^◌, ◌<◌, ◌≤◌, ◌⊎◌, suc, Bool, true, false, not, List, [], ◌∷◌, ◌++◌, length, map}
use Rattle.std.specs.List.{flat_map}
use Rattle.std.specs.Int.{w16, to_le_bytes}
use Rattle.wire_frame.specs.Polynomial.{zeros, ones, add, IsRemainder, bits, coefficients}

-- x ^ 16 + x ^ 12 + x ^ 5 + 1, below its highest power
unfoldable pub ccitt : List Bool
ccitt = coefficients 16 0x1021

-- Ethernet's generator of degree 32, below its highest power
unfoldable pub ethernet : List Bool
ethernet = coefficients 32 0x04C11DB7

-- the bits of bytes in the order of the wire: those of a byte least first
unfoldable pub wire_bits : List ℕ → List Bool
wire_bits bytes = flat_map (bits 8) bytes

-- What is divided: the message times x ^ w. That the register is all ones at first complements the first w bits.
abbrev pub dividend : ℕ → List ℕ → List Bool
dividend w message =
    add (wire_bits message ++ zeros w) (ones w ++ zeros (length (wire_bits message)))

-- A number of w bits is the checksum of a message: its bits, the least of them first on the wire, are the complement
-- of the remainder
pub record IsChecksum (low : List Bool) (message : List ℕ) (sum : ℕ) : Type 0 where
  pub fits : sum < 2 ^ length low
  pub remainder : IsRemainder low (dividend (length low) message) (map not (bits (length low) sum))

-- the header check sequence: CRC-CCITT
abbrev pub IsHcs : List ℕ → ℕ → Type 0
IsHcs message sum = IsChecksum ccitt message sum

-- the checksum of a management message: Ethernet's CRC-32
abbrev pub IsCrc : List ℕ → ℕ → Type 0
IsCrc message sum = IsChecksum ethernet message sum

-- A header: bytes, and their HCS behind them with its low byte first
pub record IsHeader (header : List ℕ) : Type 0 where
  pub front : List ℕ
  pub sum : ℕ
  pub bytes : header ≡ front ++ to_le_bytes w16 sum
  pub is_hcs : IsHcs front sum

-- how many bits are set
abbrev pub bits_set : List Bool → ℕ
bits_set [] = 0
bits_set (true ∷ bs) = suc (bits_set bs)
bits_set (false ∷ bs) = bits_set bs

-- in how many bits two lists of bytes of one length differ
abbrev pub changed_bits : List ℕ → List ℕ → ℕ
changed_bits xs ys = bits_set (add (wire_bits xs) (wire_bits ys))

-- a message has one checksum, and no other
abbrev pub HasOneSum : List Bool → Type 0
HasOneSum low =
    (message : List ℕ)
    → (sum : ℕ) × IsChecksum low message sum × ((other : ℕ) → IsChecksum low message other → other ≡ sum)

-- a header of at most 7 bytes in which one bit is changed, or two are, is none: its HCS finds the change
abbrev pub FindsTwoBits : Type 0
FindsTwoBits =
    (sent heard : List ℕ)
    → IsHeader sent → length heard ≡ length sent → length sent ≤ 7
    → (changed_bits sent heard ≡ 1) ⊎ (changed_bits sent heard ≡ 2)
    → ¬ (IsHeader heard)
