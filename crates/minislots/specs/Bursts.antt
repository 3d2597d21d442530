-- Bursts: the minislots that so many bytes take on the wire, and the bytes that so many minislots carry.
use Rattle.std.specs.Prelude.{ℕ, ◌<◌, ◌≤◌, ◌+◌, ◌-◌, ◌*◌, ◌/◌, ◌%◌, ◌↔◌, min, max, Bool, true, false, ◌&&◌, nat_le, ◌==◌}
use Rattle.std.specs.Prelude.{if◌then◌else◌}
use Rattle.minislots.specs.declared.bursts.Bursts.{Bursts}
use Rattle.minislots.specs.declared.bursts.Bursts.TheVariants.{Uniform, Described}
use Rattle.minislots.specs.declared.bursts.Descriptors.{Descriptors}
use Rattle.minislots.specs.declared.bursts.Profile.{Profile}

-- the number is from low to high
abbrev pub is_within : ℕ → ℕ → ℕ → Bool
is_within low high n = nat_le low n && nat_le n high

-- how many of this size hold so many things, the last one perhaps in part
abbrev pub rounded_up : ℕ → ℕ → ℕ
rounded_up many size = (many + size - 1) / size

-- the fewest information bytes of a shortened last codeword: where fewer are left, it is filled up to these
abbrev pub least_information : ℕ
least_information = 16

-- the parity bytes of a codeword: two for each byte that it can correct
abbrev pub parity_bytes : Profile → ℕ
parity_bytes p = 2 * p.parity

-- the bytes of a full codeword: its information and its parity
abbrev pub codeword : Profile → ℕ
codeword p = p.information + parity_bytes p

-- the bytes of the last codeword where so many information bytes are left for it: none where none is; where the profile
-- shortens it those, filled up to the fewest, and the parity; else a full codeword
abbrev pub last_codeword : Profile → ℕ → ℕ
last_codeword p left =
    if left == 0 then 0
    else if p.shortened == 1 then max left least_information + parity_bytes p else codeword p

-- the bytes of a burst with their parity: full codewords and the last one, or the bytes alone where there is no FEC
abbrev pub coded : Profile → ℕ → ℕ
coded p bytes =
    if p.parity == 0 then bytes
    else bytes / p.information * codeword p + last_codeword p (bytes % p.information)

-- the symbols of a burst: its preamble, its bytes with their parity, and its guard time
abbrev pub symbols_of : Profile → ℕ → ℕ
symbols_of p bytes = p.preamble + rounded_up (8 * coded p bytes) p.bits + p.guard

-- the minislots of a burst of so many bytes by a profile, where a minislot has so many symbols
unfoldable pub slots_by : ℕ → Profile → ℕ → ℕ
slots_by symbols p bytes = rounded_up (symbols_of p bytes) symbols

-- the bytes, with their parity, whose symbols so many minislots have beside preamble and guard time
abbrev pub room_for : ℕ → Profile → ℕ → ℕ
room_for symbols p slots = p.bits * (slots * symbols - (p.preamble + p.guard)) / 8

-- the information bytes of a last codeword that has room for at most so many bytes, fewer than a full one: none where
-- it is not shortened, or the room is below the shortest
abbrev pub last_information : Profile → ℕ → ℕ
last_information p room =
    if p.shortened == 1 && nat_le (least_information + parity_bytes p) room then room - parity_bytes p else 0

-- the most bytes whose codewords have at most so many bytes together
abbrev pub information_in : Profile → ℕ → ℕ
information_in p room =
    if p.parity == 0 then room
    else room / codeword p * p.information + last_information p (room % codeword p)

-- the most bytes of a burst that takes at most so many minislots by a profile
unfoldable pub bytes_by : ℕ → Profile → ℕ → ℕ
bytes_by symbols p slots = information_in p (room_for symbols p slots)

-- a minislot carries these bytes and each burst has this overhead: its minislots
abbrev pub uniform_slots : ℕ → ℕ → ℕ → ℕ
uniform_slots bytes_per_slot overhead bytes = overhead + rounded_up bytes bytes_per_slot

-- and the bytes in so many minislots: none where they are no more than the overhead
abbrev pub uniform_bytes : ℕ → ℕ → ℕ → ℕ
uniform_bytes bytes_per_slot overhead slots = (slots - overhead) * bytes_per_slot

-- the minislots of a burst by the profile of long data grants
abbrev pub long_slots : Bursts → ℕ → ℕ
long_slots (Uniform bytes_per_slot overhead) bytes = uniform_slots bytes_per_slot overhead bytes
long_slots (Described d) bytes = slots_by d.symbols d.long bytes

-- by that of unsolicited grants, which an Advanced PHY has
abbrev pub unsolicited_slots : Bursts → ℕ → ℕ
unsolicited_slots (Uniform bytes_per_slot overhead) bytes = uniform_slots bytes_per_slot overhead bytes
unsolicited_slots (Described d) bytes = slots_by d.symbols d.unsolicited bytes

-- the minislots of a burst by the profile of short data grants
abbrev pub short_slots : Bursts → ℕ → ℕ
short_slots (Uniform bytes_per_slot overhead) bytes = uniform_slots bytes_per_slot overhead bytes
short_slots (Described d) bytes = slots_by d.symbols d.short bytes

-- and the most bytes of a burst of at most so many minislots by it
abbrev pub short_bytes : Bursts → ℕ → ℕ
short_bytes (Uniform bytes_per_slot overhead) slots = uniform_bytes bytes_per_slot overhead slots
short_bytes (Described d) slots = bytes_by d.symbols d.short slots

-- how many numbers of bytes, from 0 on, have bursts of at most so many minislots by it
abbrev pub short_sizes : Bursts → ℕ → ℕ
short_sizes b most = if nat_le (short_slots b 0) most then short_bytes b most + 1 else 0

-- a burst that is short enough for the profile of short data grants, and not longer by it than by that of long ones
abbrev pub serves_short : Descriptors → ℕ → ℕ → Bool
serves_short d most bytes = nat_le (slots_by d.symbols d.short bytes) most
    && nat_le (slots_by d.symbols d.short bytes) (slots_by d.symbols d.long bytes)

-- whether a data grant of so many bytes is short, where short ones have at most so many minislots
abbrev pub is_short_burst : Bursts → ℕ → ℕ → Bool
is_short_burst (Uniform bytes_per_slot overhead) most bytes = nat_le (uniform_slots bytes_per_slot overhead bytes) most
is_short_burst (Described d) most bytes = serves_short d most bytes

-- the minislots of a data grant of so many bytes, by the profile of its usage
abbrev pub length_of : Bursts → ℕ → ℕ → ℕ
length_of (Uniform bytes_per_slot overhead) most bytes = uniform_slots bytes_per_slot overhead bytes
length_of (Described d) most bytes =
    if serves_short d most bytes then slots_by d.symbols d.short bytes else slots_by d.symbols d.long bytes

-- the most bytes of a data grant of at most so many minislots
abbrev pub capacity_of : Bursts → ℕ → ℕ → ℕ
capacity_of (Uniform bytes_per_slot overhead) most slots = uniform_bytes bytes_per_slot overhead slots
capacity_of (Described d) most slots =
    max (bytes_by d.symbols d.short (min slots most)) (bytes_by d.symbols d.long slots)

-- whether each number of a profile is lawful
abbrev pub is_profile : Profile → Bool
is_profile p = nat_le p.preamble 1536 && nat_le p.guard 255 && is_within 1 8 p.bits && nat_le p.parity 16
    && is_within least_information 253 p.information && nat_le (codeword p) 255 && nat_le p.shortened 1

-- whether the descriptors are lawful
abbrev pub are_descriptors : Descriptors → Bool
are_descriptors d =
    is_within 1 4096 d.symbols && is_profile d.short && is_profile d.long && is_profile d.unsolicited

-- whether the numbers of a channel's bursts are lawful
abbrev pub are_bursts : Bursts → Bool
are_bursts (Uniform bytes_per_slot overhead) = is_within 1 1024 bytes_per_slot && is_within 1 64 overhead
are_bursts (Described d) = are_descriptors d

-- whether each burst has the same overhead, and a minislot the same bytes
abbrev pub is_uniform : Bursts → Bool
is_uniform (Uniform bytes_per_slot overhead) = true
is_uniform (Described d) = false

-- what is known of a lawful profile
pub record IsSound (p : Profile) : Type 0 where
  pub preamble_most : p.preamble ≤ 1536
  pub guard_most : p.guard ≤ 255
  pub bits_positive : 0 < p.bits
  pub bits_most : p.bits ≤ 8
  pub parity_most : p.parity ≤ 16
  pub information_least : least_information ≤ p.information
  pub information_most : p.information ≤ 253
  pub codeword_most : codeword p ≤ 255
  pub shortened_most : p.shortened ≤ 1

-- of lawful descriptors
pub record AreSound (d : Descriptors) : Type 0 where
  pub symbols_positive : 0 < d.symbols
  pub symbols_most : d.symbols ≤ 4096
  pub short : IsSound d.short
  pub long : IsSound d.long
  pub unsolicited : IsSound d.unsolicited

-- of a minislot that carries the same bytes in each burst
pub record IsUniform (bytes_per_slot overhead : ℕ) : Type 0 where
  pub bytes_positive : 0 < bytes_per_slot
  pub bytes_most : bytes_per_slot ≤ 1024
  pub overhead_positive : 0 < overhead
  pub overhead_most : overhead ≤ 64

-- of the bursts of a lawful configuration
abbrev pub HasBursts : Bursts → Type 0
HasBursts (Uniform bytes_per_slot overhead) = IsUniform bytes_per_slot overhead
HasBursts (Described d) = AreSound d

-- so many bytes, and no more, take at most so many minislots
abbrev pub IsCapacity : (ℕ → ℕ) → ℕ → ℕ → Type 0
IsCapacity slots_of slots most = (bytes : ℕ) → 0 < bytes → (slots_of bytes ≤ slots) ↔ (bytes ≤ most)
