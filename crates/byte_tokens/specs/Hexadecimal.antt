-- Hexadecimal digits.
use Rattle.std.specs.Prelude.{ℕ, ◌+◌, ◌*◌, ◌/◌, ◌%◌}

-- The value of a digit of either case, by arithmetic alone; of any other byte it is any number.
abbrev pub digit_value : ℕ → ℕ
digit_value c = c % 16 + c / 64 * 9
