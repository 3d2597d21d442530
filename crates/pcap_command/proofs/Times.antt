-- The time of a minislot: whole seconds are taken from the minislot before the ticks are counted, so that nothing
-- overflows.
use Rattle.std.proofs.Common.{◌≡◌, ℕ, ◌+◌, ◌*◌, ◌/◌, ◌%◌, ◌^◌, ◌≤◌, ap, ◌∙◌, arith}
use Rattle.std.proofs.Math.Nat.{add-mul, mul_right_comm}
use Rattle.minislots.specs.declared.config.Config.{Config}
use Rattle.minislots.specs.Config.{IsLawful}
use Rattle.minislots.proofs.Bounds.{bounds_of}

-- a minislot of a lawful configuration has at most 128 ticks
pub few : (c : Config) (ticks : ℕ) → IsLawful c → ticks ≡ c.ticks → ticks ≤ 128
few c ticks lawful same =
    let most = (bounds_of c lawful).ticks_most in
    omega (arith, most, same)

-- the ticks before a minislot, by the seconds that its number has, and by the rest
ticks_before : (slot ticks : ℕ) → slot * ticks ≡ slot / 160000 * ticks * 160000 + slot % 160000 * ticks
ticks_before slot ticks =
    let parts : slot ≡ slot / 160000 * 160000 + slot % 160000 = omega arith in
    ap (λ s. s * ticks) parts ∙ add-mul (slot / 160000 * 160000) (slot % 160000) ticks
    ∙ ap (λ x. x + slot % 160000 * ticks) (mul_right_comm (slot / 160000) 160000 ticks)

-- the whole seconds
pub seconds_are : (slot ticks : ℕ)
    → slot / 160000 * ticks + slot % 160000 * ticks / 160000 ≡ slot * ticks * 6250 / 10 ^ 9
seconds_are slot ticks =
    let whole = ticks_before slot ticks in
    omega (arith, whole)

-- the nanoseconds behind them
pub nanoseconds_are : (slot ticks : ℕ)
    → slot % 160000 * ticks % 160000 * 6250 ≡ slot * ticks * 6250 % 10 ^ 9
nanoseconds_are slot ticks =
    let whole = ticks_before slot ticks in
    omega (arith, whole)
