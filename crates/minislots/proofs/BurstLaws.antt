-- So many bytes take at most so many minislots exactly where they are no more than those carry.
use Rattle.std.proofs.Common.{◌≡◌, ℕ, ◌+◌, ◌-◌, ◌*◌, ◌/◌, ◌%◌, ◌<◌, ◌≤◌, ◌==◌, min, max, ◌&&◌, nat_le, nat_lt, ◌↔◌}
use Rattle.std.proofs.Common.{Bool, true, false, inl, inr, arith, ap, ◌∙◌, lit<, zero, suc, if◌then◌else◌}
use Rattle.std.proofs.lemmas.Bool.{cases_lt, cases_Bool}
use Rattle.std.proofs.lemmas.Bool.Decides.{nat_tests}
use Rattle.std.proofs.Math.Nat.{mul_comm, le_of_mul-le-mul_left}
use Rattle.std.proofs.lemmas.Nat.{le-div, mul-le, div-add-mod', mod_below}
use Rattle.minislots.specs.declared.bursts.Bursts.{Bursts}
use Rattle.minislots.specs.declared.bursts.Bursts.TheVariants.{Uniform, Described}
use Rattle.minislots.specs.declared.bursts.Descriptors.{Descriptors}
use Rattle.minislots.specs.declared.bursts.Profile.{Profile}
use Rattle.minislots.specs.Bursts.{rounded_up, codeword, last_codeword, coded}
use Rattle.minislots.specs.Bursts.{symbols_of, slots_by, room_for, last_information, information_in, bytes_by}
use Rattle.minislots.specs.Bursts.{uniform_slots, uniform_bytes, length_of, capacity_of, IsSound, AreSound}
use Rattle.minislots.specs.Bursts.{HasBursts, IsCapacity, long_slots, unsolicited_slots}
use Rattle.minislots.specs.Bursts.{short_slots, short_bytes, short_sizes, serves_short}

-- the rounded quotient is enough
rounded_up-enough : (n b : ℕ) → 0 < b → n ≤ rounded_up n b * b
rounded_up-enough n b h = omega arith

-- and no smaller number is
rounded_up-least : (n b m : ℕ) → 0 < b → n ≤ m * b → rounded_up n b ≤ m
rounded_up-least n b m h le = grind arith

-- what is held by at most so many of a size is no more than they hold
rounded_up-holds : (n b m : ℕ) → 0 < b → rounded_up n b ≤ m → n ≤ m * b
rounded_up-holds n b m h le = omega (arith, rounded_up-enough n b h, mul-le (rounded_up n b) b m b le (omega arith))

-- what is rounded up to a size, and then to a size of so many of those, may be rounded up once
rounded_up-once : (spent n b s : ℕ) → 0 < b → 0 < s
    → rounded_up (b * spent + n) (b * s) ≡ rounded_up (spent + rounded_up n b) s
rounded_up-once spent n b s some_b some_s =
    let held = rounded_up n b in
    let twice = rounded_up (spent + held) s in
    let once = rounded_up (b * spent + n) (b * s) in
    let some : 0 < b * s = mul-le 1 1 b s some_b some_s in
    let all : (spent + held) * b ≤ twice * s * b =
    mul-le (spent + held) b (twice * s) b (rounded_up-enough (spent + held) s some_s) (omega arith) in
    let least : once ≤ twice = rounded_up-least (b * spent + n) (b * s) twice some
    (omega (arith, all, rounded_up-enough n b some_b)) in
    let enough : b * spent + n ≤ once * (b * s) = rounded_up-enough (b * spent + n) (b * s) some in
    let before : spent ≤ once * s = le_of_mul-le-mul_left (omega (arith, enough)) some_b in
    let room = once * s - spent in
    let parts : b * (once * s) ≡ b * (spent + room) = ap (λ k. b * k) (omega (arith, before)) in
    let most : held ≤ room = rounded_up-least n b room some_b (omega (arith, enough, parts)) in
    omega (arith, least, rounded_up-least (spent + held) s once some_s (omega (arith, most, before)))

-- one more of a size
one_more : (q c b : ℕ) → q < c → q * b + b ≤ c * b
one_more q c b lt =
    let whole : (q + 1) * b ≤ c * b = mul-le (q + 1) b c b (omega arith) (omega arith) in
    omega (arith, whole)

-- numbers of two digits are in the order of their first digits, and where those are one of their last
first_digits : (q c b r y : ℕ) → r ≤ b → y < b → (q ≡ c → r ≤ y) → q ≤ c → q * b + r ≤ c * b + y
first_digits q c b r y most below same le = elim (cases_lt q c) [
  | inl less ↦ omega (arith, one_more q c b less)
  | inr not_less ↦
      let one : q ≡ c = omega arith in omega (arith, same one, ap (λ n. n * b) one)
]

-- and a number that is no greater has no greater first digit
no_greater : (q c b r y : ℕ) → y < b → q * b + r ≤ c * b + y → q ≤ c
no_greater q c b r y below le = elim (cases_lt c q) [
  | inl more ↦ absurd (omega (arith, one_more c q b more))
  | inr at_most ↦ at_most
]

-- nor a greater last digit, where the first is one
last_digits : (q c b r y : ℕ) → q ≡ c → q * b + r ≤ c * b + y → r ≤ y
last_digits q c b r y one le = omega (arith, ap (λ n. n * b) one)

positive-by : (left b some : ℕ) → some ≤ left * b → 0 < some → 0 < left
positive-by zero b some held more = omega (arith, held)
positive-by (suc left) b some held more = omega arith

positive-of : (left bits some : ℕ) → 8 * some ≤ left * bits → 0 < some → 0 < left
positive-of zero bits some held more = omega (arith, held)
positive-of (suc left) bits some held more = omega arith

module _ (p : Profile) (sound : IsSound p) where
  -- a last codeword fits where its information bytes do
  last-forth : (left room : ℕ) → left < p.information → room < codeword p → last_codeword p left ≤ room
      → left ≤ last_information p room
  last-forth left room part short fits = grind (arith, nat_tests)

  last-back : (left room : ℕ) → left < p.information → room < codeword p → left ≤ last_information p room
      → last_codeword p left ≤ room
  last-back left room part short fits = grind (arith, nat_tests)

  -- a last codeword is no longer than a full one, and its information bytes are fewer than a full one's
  last-most : (left : ℕ) → left < p.information → last_codeword p left ≤ codeword p
  last-most left part = grind (arith, nat_tests)

  last-part : (room : ℕ) → room < codeword p → last_information p room < p.information
  last-part room short = grind (arith, nat_tests)

  in_codewords-forth : (bytes room : ℕ)
      → bytes / p.information * codeword p + last_codeword p (bytes % p.information) ≤ room
      → bytes ≤ room / codeword p * p.information + last_information p (room % codeword p)
  in_codewords-forth bytes room fits =
      let part : bytes % p.information < p.information = mod_below bytes p.information (omega arith) in
      let short : room % codeword p < codeword p = mod_below room (codeword p) (omega arith) in
      let whole = div-add-mod' bytes p.information in
      let all = div-add-mod' room (codeword p) in
      let q = bytes / p.information in
      let c = room / codeword p in
      let l = last_codeword p (bytes % p.information) in
      let within : q * codeword p + l ≤ c * codeword p + room % codeword p = omega (arith, all) in
      let le = no_greater q c (codeword p) l (room % codeword p) short within in
      let same : q ≡ c → bytes % p.information ≤ last_information p (room % codeword p) =
      λ one. last-forth (bytes % p.information) (room % codeword p) part short
      (last_digits q c (codeword p) l (room % codeword p) one within) in
      let found = first_digits q c p.information (bytes % p.information) (last_information p (room % codeword p))
      (omega arith) (last-part (room % codeword p) short) same le in
      omega (arith, whole, found)

  in_codewords-back : (bytes room : ℕ)
      → bytes ≤ room / codeword p * p.information + last_information p (room % codeword p)
      → bytes / p.information * codeword p + last_codeword p (bytes % p.information) ≤ room
  in_codewords-back bytes room fits =
      let part : bytes % p.information < p.information = mod_below bytes p.information (omega arith) in
      let short : room % codeword p < codeword p = mod_below room (codeword p) (omega arith) in
      let whole = div-add-mod' bytes p.information in
      let all = div-add-mod' room (codeword p) in
      let q = bytes / p.information in
      let c = room / codeword p in
      let z = last_information p (room % codeword p) in
      let within : q * p.information + bytes % p.information ≤ c * p.information + z = omega (arith, whole) in
      let less : z < p.information = last-part (room % codeword p) short in
      let le = no_greater q c p.information (bytes % p.information) z less within in
      let same : q ≡ c → last_codeword p (bytes % p.information) ≤ room % codeword p =
      λ one. last-back (bytes % p.information) (room % codeword p) part short
      (last_digits q c p.information (bytes % p.information) z one within) in
      let found = first_digits q c (codeword p) (last_codeword p (bytes % p.information)) (room % codeword p)
      (last-most (bytes % p.information) part) short same le in
      omega (arith, all, found)

  -- bytes with their parity have room where they are no more than its information bytes
  coded-forth : (bytes room : ℕ) → coded p bytes ≤ room → bytes ≤ information_in p room
  coded-forth bytes room fits = elim (cases_Bool (p.parity == 0)) [
    | inl none ↦ rw none (rw none at fits)
    | inr some ↦ rw some (in_codewords-forth bytes room (rw some at fits))
  ]

  coded-back : (bytes room : ℕ) → bytes ≤ information_in p room → coded p bytes ≤ room
  coded-back bytes room fits = elim (cases_Bool (p.parity == 0)) [
    | inl none ↦ rw none (rw none at fits)
    | inr some ↦ rw some (in_codewords-back bytes room (rw some at fits))
  ]

  last-least : (left : ℕ) → left < p.information → left ≤ last_codeword p left
  last-least left part = grind (arith, nat_tests)

  in_codewords-least : (bytes : ℕ)
      → bytes ≤ bytes / p.information * codeword p + last_codeword p (bytes % p.information)
  in_codewords-least bytes =
      let part : bytes % p.information < p.information = mod_below bytes p.information (omega arith) in
      let q = bytes / p.information in
      omega (
        arith,
        div-add-mod' bytes p.information,
        mul-le q p.information q (codeword p) (omega arith) (omega arith),
        last-least (bytes % p.information) part,
      )

  -- bytes are no more than with their parity
  coded-least : (bytes : ℕ) → bytes ≤ coded p bytes
  coded-least bytes = elim (cases_Bool (p.parity == 0)) [
    | inl none ↦ rw none (omega arith)
    | inr some ↦ rw some (in_codewords-least bytes)
  ]

  module _ (symbols : ℕ) (positive : 0 < symbols) where
    -- a burst fits the minislots where its bytes with their parity have room
    in_slots-forth : (bytes slots : ℕ) → rounded_up (symbols_of p bytes) symbols ≤ slots
        → coded p bytes ≤ room_for symbols p slots
    in_slots-forth bytes slots fits =
        let all = rounded_up-holds (symbols_of p bytes) symbols slots positive fits in
        let sent = rounded_up (8 * coded p bytes) p.bits in
        let spent : sent ≤ slots * symbols - (p.preamble + p.guard) = omega (arith, all) in
        let held = rounded_up-holds (8 * coded p bytes) p.bits (slots * symbols - (p.preamble + p.guard))
        (omega arith) spent in
        le-div (coded p bytes) (p.bits * (slots * symbols - (p.preamble + p.guard))) 8 (lit< tt)
        (omega (arith, held, mul_comm (slots * symbols - (p.preamble + p.guard)) p.bits))

    in_slots-back : (bytes slots : ℕ) → 0 < bytes → coded p bytes ≤ room_for symbols p slots
        → rounded_up (symbols_of p bytes) symbols ≤ slots
    in_slots-back bytes slots some room =
        let left = slots * symbols - (p.preamble + p.guard) in
        let held : 8 * coded p bytes ≤ left * p.bits = omega (arith, room, mul_comm left p.bits) in
        let sent = rounded_up-least (8 * coded p bytes) p.bits left (omega arith) held in
        let lasts : 0 < left = positive-of left p.bits (coded p bytes) held
        (omega (arith, coded-least bytes)) in
        rounded_up-least (symbols_of p bytes) symbols slots positive (omega (arith, sent, lasts))

    -- its minislots, counted in the bits of their symbols
    pub in_bits : (bytes : ℕ) → rounded_up (p.bits * (p.preamble + p.guard) + 8 * coded p bytes) (p.bits * symbols)
        ≡ slots_by symbols p bytes
    unfolding slots_by
    in_bits bytes =
        rounded_up-once (p.preamble + p.guard) (8 * coded p bytes) p.bits symbols sound.bits_positive positive
        ∙ ap (λ n. rounded_up n symbols) (omega arith)

    -- a profile's minislots carry so many bytes, and no more
    pub by_profile : (slots : ℕ) → IsCapacity (slots_by symbols p) slots (bytes_by symbols p slots)
    unfolding slots_by bytes_by
    by_profile slots bytes some = (
      λ fits. coded-forth bytes (room_for symbols p slots) (in_slots-forth bytes slots fits),
      λ fits. in_slots-back bytes slots some (coded-back bytes (room_for symbols p slots) fits),
    )

    -- a burst of none is its preamble and its guard time
    by_none : (bytes : ℕ) → slots_by symbols p 0 ≤ slots_by symbols p bytes
    unfolding slots_by
    by_none bytes =
        let nothing = coded-back 0 0 (omega arith) in
        let sent = rounded_up-least (8 * coded p 0) p.bits 0 (omega arith) (omega (arith, nothing)) in
        let held = rounded_up-enough (symbols_of p bytes) symbols positive in
        rounded_up-least (symbols_of p 0) symbols (rounded_up (symbols_of p bytes) symbols) positive
        (omega (arith, sent, held))

    -- some bytes take some minislots
    pub by_profile-positive : (bytes : ℕ) → 0 < bytes → 0 < slots_by symbols p bytes
    unfolding slots_by
    by_profile-positive bytes some = elim (cases_lt 0 (rounded_up (symbols_of p bytes) symbols)) [
      | inl positive ↦ positive
      | inr none ↦
          let all = rounded_up-holds (symbols_of p bytes) symbols 0 positive none in
          let held = rounded_up-holds (8 * coded p bytes) p.bits 0 (omega arith) (omega (arith, all)) in
          absurd (omega (arith, held, coded-least bytes))
    ]

    -- more bytes take no fewer minislots
    pub by_profile-rises : (fewer bytes : ℕ) → fewer ≤ bytes → slots_by symbols p fewer ≤ slots_by symbols p bytes
    by_profile-rises fewer bytes le = elim (cases_lt 0 fewer) [
      | inl some ↦
          let all = (by_profile (slots_by symbols p bytes) bytes (omega arith)).0 (omega arith) in
          (by_profile (slots_by symbols p bytes) fewer some).1 (omega (arith, all))
      | inr none ↦ let zero_is : fewer ≡ 0 = omega arith in rw zero_is (by_none bytes)
    ]

-- a minislot that carries the same bytes in each burst: so many take at most so many minislots
uniform-forth : (b o : ℕ) → 0 < b → (bytes slots : ℕ) → uniform_slots b o bytes ≤ slots
    → bytes ≤ uniform_bytes b o slots
uniform-forth b o some bytes slots fits =
    rounded_up-holds bytes b (slots - o) some (omega (arith, fits))

uniform-back : (b o : ℕ) → 0 < b → (bytes slots : ℕ) → 0 < bytes → bytes ≤ uniform_bytes b o slots
    → uniform_slots b o bytes ≤ slots
uniform-back b o some bytes slots more fits =
    let held = rounded_up-least bytes b (slots - o) some fits in
    let lasts : 0 < slots - o = positive-by (slots - o) b bytes fits more in
    omega (arith, held, lasts)

-- the shorter of two bursts, of which one must be short enough
module _ (s l short long most slots bytes : ℕ) (of_short : (s ≤ min slots most) ↔ (bytes ≤ short))
    (of_long : (l ≤ slots) ↔ (bytes ≤ long)) where
  shorter-forth : (if (nat_le s most && nat_le s l) then s else l) ≤ slots → bytes ≤ max short long
  shorter-forth fits = grind (arith, nat_tests, of_short, of_long)

  shorter-back : bytes ≤ max short long → (if (nat_le s most && nat_le s l) then s else l) ≤ slots
  shorter-back fits = grind (arith, nat_tests, of_short, of_long)

-- the minislots of a data grant carry so many bytes, and no more
pub by_bursts : (b : Bursts) (most : ℕ) → HasBursts b → (slots : ℕ)
    → IsCapacity (length_of b most) slots (capacity_of b most slots)
by_bursts (Uniform bytes_per_slot overhead) most sound slots bytes some = (
  uniform-forth bytes_per_slot overhead sound.bytes_positive bytes slots,
  uniform-back bytes_per_slot overhead sound.bytes_positive bytes slots some,
)
by_bursts (Described d) most sound slots bytes some =
    let of_short = by_profile d.short sound.short d.symbols sound.symbols_positive (min slots most) bytes some in
    let of_long = by_profile d.long sound.long d.symbols sound.symbols_positive slots bytes some in (
      shorter-forth _ _ _ _ most slots bytes of_short of_long,
      shorter-back _ _ _ _ most slots bytes of_short of_long,
    )

shorter-rises : (s l s' l' most : ℕ) → s ≤ s' → l ≤ l' →
    (if (nat_le s most && nat_le s l) then s else l) ≤ (if (nat_le s' most && nat_le s' l') then s' else l')
shorter-rises s l s' l' most of_short of_long = grind (arith, nat_tests)

uniform-rises : (b o fewer bytes : ℕ) → 0 < b → fewer ≤ bytes → uniform_slots b o fewer ≤ uniform_slots b o bytes
uniform-rises b o fewer bytes some le =
    let held = rounded_up-enough bytes b some in
    omega (arith, rounded_up-least fewer b (rounded_up bytes b) some (omega (arith, held)))

-- more bytes take no fewer minislots
pub by_bursts-rises : (b : Bursts) (most : ℕ) → HasBursts b → (fewer bytes : ℕ) → fewer ≤ bytes
    → length_of b most fewer ≤ length_of b most bytes
by_bursts-rises (Uniform bytes_per_slot overhead) most sound fewer bytes le =
    uniform-rises bytes_per_slot overhead fewer bytes sound.bytes_positive le
by_bursts-rises (Described d) most sound fewer bytes le =
    shorter-rises _ _ _ _ most
    (by_profile-rises d.short sound.short d.symbols sound.symbols_positive fewer bytes le)
    (by_profile-rises d.long sound.long d.symbols sound.symbols_positive fewer bytes le)

-- by the profile of short data grants so many minislots carry so many bytes, and no more
by_short : (b : Bursts) → HasBursts b → (most : ℕ) → IsCapacity (short_slots b) most (short_bytes b most)
by_short (Uniform bytes_per_slot overhead) sound most bytes some = (
  uniform-forth bytes_per_slot overhead sound.bytes_positive bytes most,
  uniform-back bytes_per_slot overhead sound.bytes_positive bytes most some,
)
by_short (Described d) sound most bytes some =
    by_profile d.short sound.short d.symbols sound.symbols_positive most bytes some

-- and more bytes take no fewer minislots
by_short-rises : (b : Bursts) → HasBursts b → (fewer bytes : ℕ) → fewer ≤ bytes → short_slots b fewer ≤ short_slots b bytes
by_short-rises (Uniform bytes_per_slot overhead) sound fewer bytes le =
    uniform-rises bytes_per_slot overhead fewer bytes sound.bytes_positive le
by_short-rises (Described d) sound fewer bytes le =
    by_profile-rises d.short sound.short d.symbols sound.symbols_positive fewer bytes le

same_of : (n m a b : ℕ) → ((n ≤ m) ↔ (a < b)) → nat_lt a b ≡ nat_le n m
same_of n m a b same = grind (arith, nat_tests, same)

-- so many numbers of bytes, from 0 on, have bursts that are short enough by it
pub by_sizes : (b : Bursts) → HasBursts b → (most bytes : ℕ)
    → nat_lt bytes (short_sizes b most) ≡ nat_le (short_slots b bytes) most
by_sizes b sound most zero = grind (arith, nat_tests)
by_sizes b sound most (suc n) =
    let capacity = by_short b sound most (suc n) (omega arith) in
    let rises = by_short-rises b sound 0 (suc n) (omega arith) in
    grind (arith, nat_tests, capacity, rises)

-- the last of them is the most that so many minislots carry
pub by_sizes-last : (b : Bursts) → HasBursts b → (most : ℕ) → short_sizes b most - 1 ≡ short_bytes b most
by_sizes-last b sound most = elim (cases_lt 0 (short_bytes b most)) [
  | inl some ↦
      let fits = (by_short b sound most (short_bytes b most) some).1 (omega arith) in
      let rises = by_short-rises b sound 0 (short_bytes b most) (omega arith) in
      grind (arith, nat_tests, fits, rises)
  | inr none ↦ grind (arith, nat_tests, none)
]

-- one of two numbers that are positive
pub either-positive : (b : Bool) (m n : ℕ) → 0 < m → 0 < n → 0 < (if b then m else n)
either-positive true m n some more = some
either-positive false m n some more = more

-- a burst of some bytes by the profile of long data grants takes some minislots
pub long_slots-positive : (b : Bursts) → HasBursts b → (bytes : ℕ) → 0 < bytes → 0 < long_slots b bytes
long_slots-positive (Uniform bytes_per_slot overhead) sound bytes some = omega (arith, sound.overhead_positive)
long_slots-positive (Described d) sound bytes some =
    by_profile-positive d.long sound.long d.symbols sound.symbols_positive bytes some

-- and so does a data grant of some bytes
pub length-positive : (b : Bursts) (most : ℕ) → HasBursts b → (bytes : ℕ) → 0 < bytes → 0 < length_of b most bytes
length-positive (Uniform bytes_per_slot overhead) most sound bytes some = omega (arith, sound.overhead_positive)
length-positive (Described d) most sound bytes some =
    either-positive (nat_le (slots_by d.symbols d.short bytes) most
    && nat_le (slots_by d.symbols d.short bytes) (slots_by d.symbols d.long bytes)) _ _
    (by_profile-positive d.short sound.short d.symbols sound.symbols_positive bytes some)
    (by_profile-positive d.long sound.long d.symbols sound.symbols_positive bytes some)

-- and an unsolicited grant
pub unsolicited-positive : (b : Bursts) → HasBursts b → (bytes : ℕ) → 0 < bytes → 0 < unsolicited_slots b bytes
unsolicited-positive (Uniform bytes_per_slot overhead) sound bytes some = omega (arith, sound.overhead_positive)
unsolicited-positive (Described d) sound bytes some =
    by_profile-positive d.unsolicited sound.unsolicited d.symbols sound.symbols_positive bytes some

-- the same for descriptors: a burst of one of those numbers of bytes is short where it is no longer so
module _ (d : Descriptors) (sound : AreSound d) (sizes most : ℕ) (are : sizes ≡ short_sizes (Described d) most) where
  sizes-decide : (bytes : ℕ) → nat_lt bytes sizes ≡ nat_le (slots_by d.symbols d.short bytes) most
  sizes-decide bytes = rw are (by_sizes (Described d) sound most bytes)

  pub short-where : (bytes : ℕ) → bytes < sizes
      → nat_le (slots_by d.symbols d.short bytes) (slots_by d.symbols d.long bytes) ≡ serves_short d most bytes
  short-where bytes lt = grind (arith, nat_tests, sizes-decide bytes)

  pub long-where : (bytes : ℕ) → sizes ≤ bytes → serves_short d most bytes ≡ false
  long-where bytes ge = grind (arith, nat_tests, sizes-decide bytes)

  pub shorter-is : (bytes : ℕ) → bytes < sizes
      → min (slots_by d.symbols d.long bytes) (slots_by d.symbols d.short bytes) ≡ length_of (Described d) most bytes
  shorter-is bytes lt = grind (arith, nat_tests, sizes-decide bytes)
