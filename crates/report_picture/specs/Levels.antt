-- Levels, by which amounts stand on a logarithmic axis.
use Rattle.std.specs.Prelude.{◌≡◌, ℕ, ◌+◌, ◌-◌, ◌*◌, ◌/◌, ◌^◌, ◌<◌, ◌≤◌}
use Rattle.std.specs.Int.{leading_zeros, w128}
use Rattle.report_picture.specs.Axis.{place}

-- the octave of a number: the greatest power of two that it reaches, or 0
abbrev pub octave : ℕ → ℕ
octave n = 127 - leading_zeros w128 n

-- the level of a number, in 1024ths of an octave: within an octave it rises evenly, and it is rounded down
unfoldable pub level : ℕ → ℕ
level n = 1024 * octave n + 1024 * n / 2 ^ octave n

-- the place of an amount on a logarithmic axis that is so many units long, with these amounts at its ends: an amount
-- below the least one stands with it
abbrev pub level_place : ℕ → ℕ → ℕ → ℕ → ℕ
level_place long amount least most = place long (level amount - level least) (level most - level least)

-- Levels make a logarithmic axis
pub record LevelsStand : Type 0 where
  -- no greater amount is lower
  pub rises : (m n : ℕ) → m ≤ n → n < 2 ^ 128 → level m ≤ level n
  -- twice an amount is an octave higher
  pub doubles : (n : ℕ) → 0 < n → 2 * n < 2 ^ 128 → level (2 * n) ≡ level n + 1024
  -- the least amount stands where the axis begins
  pub begins : (long least most : ℕ) → level_place long least least most ≡ 0
  -- and the greatest where it ends
  pub ends : (long least most : ℕ) → 0 < least → 2 * least ≤ most → most < 2 ^ 128
      → level_place long most least most ≡ long
  -- no greater amount stands further left
  pub ordered : (long m n least most : ℕ) → m ≤ n → n < 2 ^ 128
      → level_place long m least most ≤ level_place long n least most
