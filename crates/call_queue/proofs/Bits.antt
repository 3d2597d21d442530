-- The lowest bit of a word.
use Rattle.std.proofs.Common.{◌≡◌, ℕ, ◌^◌, ◌<◌, ◌≤◌, arith}
use Rattle.std.specs.Int.{bit_at}
use Rattle.std.proofs.lemmas.Nat.Bits.{bit_at_above}

-- a bit that is set is not above the word
pub bit_within : (n k : ℕ) → bit_at n k ≡ 1 → 2 ^ k ≤ n
bit_within n k set = grind (arith, bit_at_above n k k)
