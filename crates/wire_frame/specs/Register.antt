-- What bodies hold of a checksum while they compute it: a register, whose lowest bit is the highest power. No public
-- clause is in these words.
use Rattle.std.specs.Prelude.{ℕ, zero, suc, ◌*◌, ◌/◌, ◌%◌, ◌^◌, List, bit_xor}
use Rattle.std.specs.List.{fold}

-- a register after one bit 0; the number g has the generator's bits
unfoldable pub shift : ℕ → ℕ → ℕ
shift g r = bit_xor (r / 2) (r % 2 * g)

-- after so many
unfoldable pub shifts : ℕ → ℕ → ℕ → ℕ
shifts g zero r = r
shifts g (suc n) r = shifts g n (shift g r)

-- after a byte
abbrev pub after_byte : ℕ → ℕ → ℕ → ℕ
after_byte g r byte = shifts g 8 (bit_xor r (byte % 2 ^ 8))

-- after bytes
unfoldable pub after_bytes : ℕ → ℕ → List ℕ → ℕ
after_bytes g r bytes = fold (after_byte g) r bytes
