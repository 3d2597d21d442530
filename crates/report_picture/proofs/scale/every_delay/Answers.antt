-- In proportion, or by its level.
use Rattle.std.proofs.Common.{ℕ, ◌*◌, ◌^◌, ◌<◌, ◌≤◌, Option, None, Some, arith}
use Rattle.std.proofs.Math.Nat.{mul-le-mul_right}
use Rattle.std.proofs.lemmas.Nat.{mul-lt}
use Rattle.report_picture.specs.declared.scale.Scale.{Scale}
use Rattle.report_picture.specs.Scale.{quarters, scale_end, place_from}
use Rattle.report_picture.proofs.Octaves.{place-rises, axis-ordered}
use Rattle.report_picture.proofs.scale.every_delay.Goals as goal

delay-rises : (start : Option ℕ) (s : Scale) (m n : ℕ) → m ≤ n → n < 2 ^ 64 → s.ticks < 2 ^ 32
    → place_from start s m ≤ place_from start s n
delay-rises None s m n below short few =
    place-rises 6400 (m * s.ticks) (n * s.ticks) (16 * s.tenths) (mul-le-mul_right s.ticks below)
delay-rises (Some start) s m n below short few =
    let up : m * s.ticks ≤ n * s.ticks = mul-le-mul_right s.ticks below in
    let small : n * s.ticks < 2 ^ 64 * 2 ^ 32 = mul-lt n s.ticks (2 ^ 64) (2 ^ 32) short few in
    axis-ordered 6400 (quarters s.ticks m) (quarters s.ticks n) (quarters s.ticks start) (scale_end s)
    (omega (arith, up)) (omega (arith, small))

pub returns : goal.returns
returns c = λ s m n below short few. delay-rises s.start s m n below short few
