-- The program's limit in figures, which the definitions name by the constant of the code.
use Rattle.std.proofs.Common.{◌≡◌, ℕ, refl}
use Rattle.text_stream.specs.declared.input.TheConstants.{MAX_INPUT}

-- the bytes of the longest input
pub longest_input : ◌≡◌ {A = ℕ} MAX_INPUT 16777216
longest_input = refl
