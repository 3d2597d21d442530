-- So few minislots as a frame has carry fewer bytes than a number of 32 bits tells.
use Rattle.std.proofs.Common.{ℕ, ◌+◌, ◌-◌, ◌*◌, ◌/◌, ◌%◌, ◌^◌, ◌<◌, ◌≤◌, ◌==◌, ◌&&◌, min, nat_le}
use Rattle.std.proofs.Common.{arith}
use Rattle.std.proofs.lemmas.Bool.{cond_both}
use Rattle.std.proofs.lemmas.Nat.{mul-le, div-add-mod'}
use Rattle.minislots.specs.declared.bursts.Bursts.{Bursts}
use Rattle.minislots.specs.declared.bursts.Bursts.TheVariants.{Uniform, Described}
use Rattle.minislots.specs.declared.bursts.Profile.{Profile}
use Rattle.minislots.specs.Bursts.{codeword, parity_bytes, least_information, room_for, last_information}
use Rattle.minislots.specs.Bursts.{information_in, bytes_by, capacity_of, IsSound, HasBursts}

last_information-most : (p : Profile) (room : ℕ) → last_information p room ≤ room
last_information-most p room =
    cond_both (p.shortened == 1 && nat_le (least_information + parity_bytes p) room) (room - parity_bytes p) 0
    (λ n. n ≤ room) (λ test. omega arith) (λ test. omega arith)

-- codewords have no more information than bytes
information_in-most : (p : Profile) (room : ℕ) → information_in p room ≤ room
information_in-most p room =
    let many = room / codeword p in
    let full : many * p.information ≤ many * codeword p =
    mul-le many p.information many (codeword p) (omega arith) (omega arith) in
    cond_both (p.parity == 0) room (many * p.information + last_information p (room % codeword p)) (λ n. n ≤ room)
    (λ test. omega arith)
    (λ test. omega (arith, full, last_information-most p (room % codeword p), div-add-mod' room (codeword p)))

-- and a minislot has at most 4096 symbols of at most 8 bits
room_for-small : (symbols : ℕ) (p : Profile) (slots : ℕ) → symbols ≤ 4096 → IsSound p → slots < 2 ^ 16
    → room_for symbols p slots < 2 ^ 29
room_for-small symbols p slots most sound few =
    let spent = p.preamble + p.guard in
    let all : slots * symbols ≤ 65535 * 4096 = mul-le slots symbols 65535 4096 (omega (arith, few)) most in
    let bits : p.bits * (slots * symbols - spent) ≤ 8 * (65535 * 4096) =
    mul-le p.bits (slots * symbols - spent) 8 (65535 * 4096) sound.bits_most (omega (arith, all)) in
    omega (arith, bits)

bytes_by-small : (symbols : ℕ) (p : Profile) (slots : ℕ) → symbols ≤ 4096 → IsSound p → slots < 2 ^ 16
    → bytes_by symbols p slots < 2 ^ 32
unfolding bytes_by
bytes_by-small symbols p slots most sound few =
    omega (arith, room_for-small symbols p slots most sound few, information_in-most p (room_for symbols p slots))

-- so it is of a data grant
pub capacity_of-small : (b : Bursts) (most slots : ℕ) → HasBursts b → slots < 2 ^ 16 → capacity_of b most slots < 2 ^ 32
capacity_of-small (Uniform bytes_per_slot overhead) most slots sound few =
    let all : (slots - overhead) * bytes_per_slot ≤ 65535 * 1024 =
    mul-le (slots - overhead) bytes_per_slot 65535 1024 (omega (arith, few)) sound.bytes_most in
    omega (arith, all)
capacity_of-small (Described d) most slots sound few =
    omega (
      arith,
      bytes_by-small d.symbols d.short (min slots most) sound.symbols_most sound.short (omega (arith, few)),
      bytes_by-small d.symbols d.long slots sound.symbols_most sound.long few,
    )
