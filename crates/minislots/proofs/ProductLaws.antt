-- A profile's numbers give what its bursts take, and what minislots carry by it.
use Rattle.std.proofs.Common.{◌≡◌, ℕ, ◌+◌, ◌-◌, ◌*◌, ◌/◌, ◌%◌, ◌<◌, ◌≤◌, ◌==◌, max, nat_lt, inl, inr}
use Rattle.std.proofs.Common.{arith, ap, ◌∙◌, if◌then◌else◌}
use Rattle.std.proofs.lemmas.Bool.{cases_lt, cases_Bool}
use Rattle.std.proofs.lemmas.Bool.Decides.{nat_tests}
use Rattle.std.proofs.Math.Nat.{le_of_mul-le-mul_left, lt_of_mul-lt-mul_left, div-eq_of_lt-le}
use Rattle.std.proofs.Math.Nat.{div-le_self, lt-div-mul-add, div-mul-le_self}
use Rattle.std.proofs.lemmas.Nat.{mul-le, div-add-mod', mod_below}
use Rattle.minislots.specs.declared.bursts.Profile.{Profile}
use Rattle.minislots.specs.Bursts.{IsSound, codeword, parity_bytes, last_codeword, coded, slots_by}
use Rattle.minislots.specs.Bursts.{room_for, last_information, information_in, bytes_by}
use Rattle.minislots.specs.Products.{inverse, byte_scale, bit_scale, filled_up, products}
use Rattle.minislots.proofs.BurstLaws.{in_bits}

-- the inverse is exact where the number times the divisor is below the scale
by-inverse : (x d s : ℕ) → 0 < d → x * d < s → x * inverse s d / s ≡ x / d
by-inverse x d s some small =
    let q = x / d in
    let g = s / d in
    let x_least : q * d ≤ x = div-mul-le_self x d in
    let x_most : x + 1 ≤ (q + 1) * d = omega (arith, lt-div-mul-add {a = x} {b = d} some) in
    let s_least : g * d ≤ s = div-mul-le_self s d in
    let s_most : s ≤ (g + 1) * d = omega (arith, lt-div-mul-add {a = s} {b = d} some) in
    let lower : d * (q * s) ≤ d * (x * (g + 1)) = omega (
      arith,
      mul-le (q * d) s x s x_least (omega arith),
      mul-le x s x ((g + 1) * d) (omega arith) s_most,
    ) in
    let upper : d * (x * (g + 1)) < d * ((q + 1) * s) = omega (
      arith,
      small,
      mul-le x (g * d) x s (omega arith) s_least,
      mul-le (x + 1) s ((q + 1) * d) s x_most (omega arith),
    ) in
    div-eq_of_lt-le s (le_of_mul-le-mul_left lower some) (lt_of_mul-lt-mul_left d upper)

-- a number above has the same quotient, or the next one and no rest
next-same : (n k : ℕ) → 0 < k → n % k + 1 < k → (n + 1) / k ≡ n / k
next-same n k some less =
    let all = div-add-mod' n k in
    div-eq_of_lt-le k (omega (arith, all)) (omega (arith, all, less))

next-more : (n k : ℕ) → 0 < k → n % k + 1 ≡ k → (n + 1) / k ≡ n / k + 1
next-more n k some full =
    let all = div-add-mod' n k in
    div-eq_of_lt-le k (omega (arith, all, full)) (omega (arith, all, full, some))

rest-of : (n k q r : ℕ) → n / k ≡ q → q * k + r ≡ n → n % k ≡ r
rest-of n k q r is whole = omega (arith, whole, div-add-mod' n k, ap (λ m. m * k) is)

-- what is left of a product by bits
left-in-bits : (b n spent m : ℕ) → m ≡ b * n → m - b * spent ≡ b * (n - spent)
left-in-bits b n spent m is = elim (cases_lt n spent) [
  | inl less ↦
      let more : b * n ≤ b * spent = mul-le b n b spent (omega arith) (omega arith) in
      let none : n - spent ≡ 0 = omega arith in
      rw none (omega (arith, more, is))
  | inr not_less ↦
      let parts : b * n ≡ b * (spent + (n - spent)) = ap (λ k. b * k) (omega (arith, not_less)) in
      omega (arith, parts, is)
]

last-few : (rest shortest parity : ℕ) → (if nat_lt rest shortest then 0 else rest - parity) ≤ rest
last-few rest shortest parity = grind (arith, nat_tests)

module _ (p : Profile) (sound : IsSound p) where
  -- full codewords by the inverse of what they have of so many bytes
  full : (n d : ℕ) → 0 < d → n * d < byte_scale
      → n * (if p.parity == 0 then 0 else inverse byte_scale d) / byte_scale ≡ (if p.parity == 0 then 0 else n / d)
  full n d some small = elim (cases_Bool (p.parity == 0)) [
    | inl none ↦ rw none (omega arith)
    | inr with ↦ rw with (by-inverse n d byte_scale some small)
  ]

  -- the last codeword of one byte more
  last-part : (left : ℕ) → left + 1 < p.information
      → last_codeword p (left + 1) ≡ max left (filled_up p - 1) + (parity_bytes p + 1)
  last-part left part = grind (arith, nat_tests)

  last-whole : (left : ℕ) → left + 1 ≡ p.information → codeword p ≡ max left (filled_up p - 1) + (parity_bytes p + 1)
  last-whole left whole = grind (arith, nat_tests)

  in_codewords : (n : ℕ) → (n + 1) / p.information * codeword p + last_codeword p ((n + 1) % p.information)
      ≡ n / p.information * codeword p + max (n - n / p.information * p.information) (filled_up p - 1)
      + (parity_bytes p + 1)
  in_codewords n =
      let k = p.information in
      let some : 0 < k = omega arith in
      let all : n / k * k + n % k ≡ n = div-add-mod' n k in
      let part : n % k < k = mod_below n k some in
      let left : n - n / k * k ≡ n % k = omega (arith, all) in
      elim (cases_lt (n % k + 1) k) [
        | inl less ↦
            let same = next-same n k some less in
            let rest : (n + 1) % k ≡ n % k + 1 = rest-of (n + 1) k (n / k) (n % k + 1) same (omega (arith, all)) in
            rw (same, rest, left, last-part (n % k) less) (omega arith)
        | inr not_less ↦
            let whole : n % k + 1 ≡ k = omega (arith, part, not_less) in
            let more = next-more n k some whole in
            let rest : (n + 1) % k ≡ 0 = rest-of (n + 1) k (n / k + 1) 0 more (omega (arith, all, whole)) in
            rw (more, rest, left) (omega (arith, last-whole (n % k) whole))
      ]

  -- the codewords of one byte more, where so many of them are full
  pub coded-next : (n : ℕ) → let f = (if p.parity == 0 then 0 else n / p.information) in
      coded p (n + 1)
      ≡ f * codeword p + max (n - f * p.information) (if p.parity == 0 then 0 else filled_up p - 1)
      + (parity_bytes p + 1)
  coded-next n = elim (cases_Bool (p.parity == 0)) [
    | inl none ↦ rw none (grind (arith, nat_tests, none))
    | inr with ↦ rw with (in_codewords n)
  ]

  -- no more than three of a burst's bytes are sent for each
  codeword-most : codeword p ≤ 3 * p.information
  codeword-most = omega arith

  full-least : (n : ℕ) → (if p.parity == 0 then 0 else n / p.information) * p.information ≤ n
  full-least n = elim (cases_Bool (p.parity == 0)) [
    | inl none ↦ rw none (omega arith)
    | inr with ↦ rw with (div-mul-le_self n p.information)
  ]

  held-least : (room : ℕ) → (if p.parity == 0 then 0 else room / codeword p) * codeword p ≤ room
  held-least room = elim (cases_Bool (p.parity == 0)) [
    | inl none ↦ rw none (omega arith)
    | inr with ↦ rw with (div-mul-le_self room (codeword p))
  ]

  last-information : (room : ℕ) → room < codeword p
      → (if nat_lt room (filled_up p + parity_bytes p) then 0 else room - parity_bytes p) ≡ last_information p room
  last-information room short = grind (arith, nat_tests)

  in_room : (room : ℕ) → room / codeword p * p.information
      + (if nat_lt (room - room / codeword p * codeword p) (filled_up p + parity_bytes p) then 0
      else room - room / codeword p * codeword p - parity_bytes p)
      ≡ room / codeword p * p.information + last_information p (room % codeword p)
  in_room room =
      let some : 0 < codeword p = omega arith in
      let left : room - room / codeword p * codeword p ≡ room % codeword p =
      omega (arith, div-add-mod' room (codeword p)) in
      rw left (ap (λ last. room / codeword p * p.information + last)
      (last-information (room % codeword p) (mod_below room (codeword p) some)))

  -- the information bytes in so much room, where so many codewords are full
  information-is : (room : ℕ) → let f = (if p.parity == 0 then 0 else room / codeword p) in
      f * p.information
      + (if nat_lt (room - f * codeword p) (if p.parity == 0 then 0 else filled_up p + parity_bytes p) then 0
      else room - f * codeword p - parity_bytes p)
      ≡ information_in p room
  information-is room = elim (cases_Bool (p.parity == 0)) [
    | inl none ↦ rw none (grind (arith, nat_tests, none))
    | inr with ↦ rw with (in_room room)
  ]

  module _ (symbols : ℕ) (positive : 0 < symbols) (few : symbols ≤ 4096) where
    slot-most : p.bits * symbols ≤ 32768
    slot-most = mul-le p.bits symbols 8 4096 sound.bits_most few

    slot-some : 0 < p.bits * symbols
    slot-some = mul-le 1 1 p.bits symbols sound.bits_positive positive

    head-most : p.bits * (p.preamble + p.guard) ≤ 14328
    head-most = mul-le p.bits (p.preamble + p.guard) 8 1791 sound.bits_most (omega arith)

    -- a burst of one byte more: its full codewords, and its bits to be rounded down, not filled up and filled up
    abbrev pub full_of : ℕ → ℕ
    full_of n = n * (products symbols p).by_information / byte_scale

    abbrev pub whole_of : ℕ → ℕ
    whole_of n = full_of n * (products symbols p).parity_bits + 8 * n + (products symbols p).first_bits

    abbrev pub bits_of : ℕ → ℕ
    bits_of n = max (whole_of n) (full_of n * (products symbols p).codeword_bits + (products symbols p).least_bits)

    pub by_slot-most : (products symbols p).by_slot ≤ 549755813889
    by_slot-most = omega (arith, div-le_self bit_scale (p.bits * symbols))

    module _ (n : ℕ) (most : n < 524288) where
      filled-most : (if p.parity == 0 then 0 else filled_up p - 1) ≤ 252
      filled-most = grind (arith, nat_tests)

      full-is : full_of n ≡ (if p.parity == 0 then 0 else n / p.information)
      full-is = full n p.information (omega arith)
          (omega (arith, mul-le n p.information 524287 253 (omega arith) sound.information_most))

      full-fits : full_of n * p.information ≤ n
      full-fits = rw full-is (full-least n)

      abbrev filled : ℕ
      filled = if p.parity == 0 then 0 else filled_up p - 1

      coded-is : coded p (n + 1) ≡ full_of n * codeword p + max (n - full_of n * p.information) filled
          + (parity_bytes p + 1)
      coded-is = rw full-is (coded-next n)

      longer : (f k parity n last : ℕ) → f * k ≤ n
          → f * (k + parity) + max (n - f * k) last ≡ max (f * parity + n) (f * (k + parity) + last)
      longer f k parity n last fits = grind (arith, nat_tests, fits)

      bits-are : bits_of n ≡ p.bits * (p.preamble + p.guard) + 8 * coded p (n + 1) + p.bits * symbols - 1
      bits-are = omega (
        arith,
        coded-is,
        slot-some,
        longer (full_of n) p.information (parity_bytes p) n filled full-fits,
      )

      pub bits-few : bits_of n < 16777216
      bits-few = omega (
        arith,
        most,
        full-fits,
        slot-most,
        head-most,
        filled-most,
        mul-le (full_of n) (codeword p) (full_of n) (3 * p.information) (omega arith) codeword-most,
      )

      -- its minislots
      pub slots-are : bits_of n * (products symbols p).by_slot / bit_scale ≡ slots_by symbols p (n + 1)
      slots-are =
          let small : bits_of n * (p.bits * symbols) < bit_scale =
          omega (arith, mul-le (bits_of n) (p.bits * symbols) 16777215 32768 (omega (arith, bits-few)) slot-most) in
          by-inverse (bits_of n) (p.bits * symbols) bit_scale slot-some small
          ∙ ap (λ m. m / (p.bits * symbols)) bits-are ∙ in_bits p sound symbols positive (n + 1)

    -- the room of so many minislots, what of it full codewords take, and the last one's information bytes
    abbrev pub room_of : ℕ → ℕ
    room_of slots = (slots * (products symbols p).slot_bits - (products symbols p).head_bits) / 8

    abbrev pub held_of : ℕ → ℕ
    held_of slots = room_of slots * (products symbols p).by_codeword / byte_scale

    abbrev rest_of : ℕ → ℕ
    rest_of slots = room_of slots - held_of slots * codeword p

    abbrev pub most_of : ℕ → ℕ
    most_of slots = held_of slots * p.information
        + (if nat_lt (rest_of slots) (products symbols p).shortest then 0 else rest_of slots - parity_bytes p)

    module _ (slots : ℕ) (at_most : slots ≤ 2048) where
      room-is : room_of slots ≡ room_for symbols p slots
      room-is = ap (λ m. m / 8)
          (left-in-bits p.bits (slots * symbols) (p.preamble + p.guard) (slots * (p.bits * symbols)) (omega arith))

      room-few : room_of slots ≤ 8388608
      room-few = omega (arith, mul-le slots (p.bits * symbols) 2048 32768 at_most slot-most)

      held-is : held_of slots ≡ (if p.parity == 0 then 0 else room_of slots / codeword p)
      held-is = full (room_of slots) (codeword p) (omega arith)
          (omega (arith, mul-le (room_of slots) (codeword p) 8388608 255 room-few sound.codeword_most))

      pub held-fits : held_of slots * codeword p ≤ room_of slots
      held-fits = rw held-is (held-least (room_of slots))

      -- they carry so many bytes
      pub bytes-are : most_of slots ≡ bytes_by symbols p slots
      unfolding bytes_by
      bytes-are = rw held-is (information-is (room_of slots)) ∙ ap (information_in p) room-is

      pub bytes-few : most_of slots ≤ 8388608
      bytes-few = omega (
        arith,
        room-few,
        held-fits,
        last-few (rest_of slots) (products symbols p).shortest (parity_bytes p),
        mul-le (held_of slots) p.information (held_of slots) (codeword p) (omega arith) (omega arith),
      )
