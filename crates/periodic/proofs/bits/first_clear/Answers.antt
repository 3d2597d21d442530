-- The bits of the complement are the others.
use Rattle.std.proofs.Common.{ℕ, ◌+◌, ◌-◌, ◌*◌, ◌<◌, ◌≤◌, ◌≡◌, arith}
use Rattle.std.specs.Int.{bit_at, w64}
use Rattle.std.proofs.lemmas.Nat.Bits.{bit_at_not}
use Rattle.periodic.specs.Bits.{IsFirstBit}
use Rattle.periodic.proofs.Words.{some-weaker, none-weaker, first-not}
use Rattle.periodic.proofs.bits.first_clear.Goals as goal

pub returns-clause-found : goal.returns-clause-found
returns-clause-found c =
    some-weaker (IsFirstBit 1 (18446744073709551615 - c.args.word) c.args.place c.args.from)
    (IsFirstBit 0 c.args.word c.args.place c.args.from) c.first_set.result
    (λ m is. first-not c.args.word c.args.place c.args.from m (omega (arith, c.ranges.word.fits)) is)
    c.first_set.ensures.found

-- all bits of a word from a minislot on are these
abbrev AreAll : ℕ → ℕ → ℕ → ℕ → Type 0
AreAll word place from bit = (i : ℕ) → i < 64 → from ≤ place * 64 + i → bit_at word i ≡ bit

pub returns-clause-absent : goal.returns-clause-absent
returns-clause-absent c =
    none-weaker (AreAll (18446744073709551615 - c.args.word) c.args.place c.args.from 0)
    (AreAll c.args.word c.args.place c.args.from 1) c.first_set.result
    (λ none i lt from.
    omega (arith, none i lt from, bit_at_not w64 c.args.word i (omega (arith, c.ranges.word.fits)) lt))
    c.first_set.ensures.absent
