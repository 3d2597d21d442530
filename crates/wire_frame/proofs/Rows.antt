-- Worked rows: the standard check values of the two checksums, and frames that Wireshark reads with each check right.
use Rattle.std.proofs.Common.{ℕ, List, [], ◌∷◌, ◌++◌, refl, arith}
use Rattle.wire_frame.specs.declared.request.Request.TheVariants.{Minislots, Queue}
use Rattle.wire_frame.specs.Polynomial.{coefficients, bits}
use Rattle.wire_frame.specs.Checksum.{ccitt, ethernet, wire_bits, IsHcs, IsCrc}
use Rattle.wire_frame.specs.Register.{shift, shifts}
use Rattle.wire_frame.specs.Request.{IsRequestFrame}
use Rattle.wire_frame.specs.MapFrame.{message, mac_header, IsMapFrame}
use Rattle.wire_frame.proofs.Values.{value}
use Rattle.wire_frame.proofs.Sums.{is_checksum}

-- the digits 1 to 9 in ASCII
abbrev digits : List ℕ
digits = 0x31 ∷ 0x32 ∷ 0x33 ∷ 0x34 ∷ 0x35 ∷ 0x36 ∷ 0x37 ∷ 0x38 ∷ 0x39 ∷ []

-- the check value of CRC-16/X-25
pub hcs_of_digits : IsHcs digits 0x906E
unfolding value wire_bits bits ccitt coefficients shifts shift
hcs_of_digits = is_checksum ccitt digits 0x906E refl

-- the check value of CRC-32
pub crc_of_digits : IsCrc digits 0xCBF43926
unfolding value wire_bits bits ethernet coefficients shifts shift
crc_of_digits = is_checksum ethernet digits 0xCBF43926 refl

-- SID 17 asks for 9 minislots
pub nine_minislots : IsRequestFrame (Minislots 9 17) (0xC4 ∷ 0x09 ∷ 0x00 ∷ 0x11 ∷ 0xFD ∷ 0x28 ∷ [])
unfolding value wire_bits bits ccitt coefficients shifts shift
nine_minislots =
    record {
      hcs = 0x28FD;
      fits = (omega arith, omega arith);
      is_hcs = is_checksum ccitt (0xC4 ∷ 0x09 ∷ 0x00 ∷ 0x11 ∷ []) 0x28FD refl;
      bytes = refl;
    }

-- SID 17 asks for 100 units
pub hundred_units : IsRequestFrame (Queue 100 17) (0xC8 ∷ 0x00 ∷ 0x64 ∷ 0x00 ∷ 0x11 ∷ 0x04 ∷ 0xB9 ∷ [])
unfolding value wire_bits bits ccitt coefficients shifts shift
hundred_units =
    record {
      hcs = 0xB904;
      fits = (omega arith, omega arith);
      is_hcs = is_checksum ccitt (0xC8 ∷ 0x00 ∷ 0x64 ∷ 0x00 ∷ 0x11 ∷ []) 0xB904 refl;
      bytes = refl;
    }

-- a MAP of an idle frame: a request region, idle minislots, and the Null
abbrev payload : List ℕ
payload =
    0x03 ∷ 0x01 ∷ 0x03 ∷ 0x00 ∷ 0x00 ∷ 0x00 ∷ 0x03 ∷ 0x20 ∷ 0x00 ∷ 0x00 ∷ 0x03 ∷ 0x20 ∷ 0x00 ∷ 0x00 ∷ 0x00 ∷ 0x00
    ∷ 0xFF ∷ 0xFC ∷ 0x40 ∷ 0x00 ∷ 0x00 ∷ 0x01 ∷ 0x80 ∷ 0x04 ∷ 0x00 ∷ 0x01 ∷ 0xC0 ∷ 0x28 ∷ []

abbrev address : List ℕ
address = 0x02 ∷ 0x00 ∷ 0x00 ∷ 0x00 ∷ 0x00 ∷ 0x01 ∷ []

-- its frame
pub idle_frame : IsMapFrame address payload
    ((0xC2 ∷ 0x00 ∷ 0x00 ∷ 0x34 ∷ 0xD6 ∷ 0x89 ∷ 0x01 ∷ 0xE0 ∷ 0x2F ∷ 0x00 ∷ 0x00 ∷ 0x01 ∷ [])
    ++ (0x02 ∷ 0x00 ∷ 0x00 ∷ 0x00 ∷ 0x00 ∷ 0x01 ∷ 0x00 ∷ 0x22 ∷ 0x00 ∷ 0x00 ∷ 0x03 ∷ 0x01 ∷ 0x03 ∷ 0x00 ∷ [])
    ++ payload ++ (0xC2 ∷ 0x86 ∷ 0xF0 ∷ 0xA5 ∷ []))
unfolding value wire_bits bits ccitt ethernet coefficients shifts shift
idle_frame =
    record {
      hcs = 0x89D6;
      crc = 0xA5F086C2;
      fits = omega arith;
      is_hcs = is_checksum ccitt (mac_header (message address payload)) 0x89D6 refl;
      is_crc = is_checksum ethernet (message address payload) 0xA5F086C2 refl;
      bytes = refl;
    }
