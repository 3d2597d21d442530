-- The lowest of the bits that are left.
use Rattle.std.proofs.Common.{◌≡◌, ap, ◌∙◌, ◌+◌, ◌-◌, ◌*◌, ◌<◌, inl, inr, arith}
use Rattle.std.specs.Int.{bit_at, w64}
use Rattle.std.specs.Int.RustNames.{bit_and}
use Rattle.std.proofs.lemmas.Bool.{cases_lt}
use Rattle.std.proofs.lemmas.Nat.{and_le_l}
use Rattle.std.proofs.lemmas.Nat.Bits.{bit_at_and, bit_at-zero, bit_at-trailing_zeros}
use Rattle.periodic.proofs.bits.first_set.Goals as goal

pub returns-then-bits-eq0-clause-absent : goal.returns-then-bits-eq0-clause-absent
returns-then-bits-eq0-clause-absent c = λ i lt from.
    let none = ap (λ n. bit_at n i) c.if-bits-eq0.true ∙ bit_at-zero i in
    omega (arith, none, bit_at_and c.args.word c.bits_from.result i, c.bits_from.ensures.inside i lt from)

pub returns-clause-found : goal.returns-clause-found
returns-clause-found c =
    let word = c.args.word in
    let mask = c.bits_from.result in
    let fits : bit_and word mask < 18446744073709551616 = omega (arith, and_le_l word mask, c.ranges.word.fits) in
    let low = bit_at-trailing_zeros w64 (bit_and word mask) (omega arith) fits in
    let t = c.from.result in
    let both : bit_at (bit_and word mask) t ≡ 1 = ap (bit_at (bit_and word mask)) c.from.ensures ∙ low.1 in
    record {
      after = elim (cases_lt (c.args.place * 64 + t) c.args.from) [
        | inl early ↦ absurd (omega (arith, both, bit_at_and word mask t, c.bits_from.ensures.outside t early))
        | inr late ↦ late
      ];
      least = omega arith;
      most = omega (arith, low.0, c.from.ensures);
      is = (let bit : c.args.place * 64 + t - c.args.place * 64 ≡ t = omega arith in
          ap (bit_at word) bit ∙ omega (arith, both, bit_at_and word mask t));
      before = λ i lt from early.
          omega (
            arith,
            low.2 i (omega (arith, c.from.ensures)),
            bit_at_and word mask i,
            c.bits_from.ensures.inside i lt from,
          );
    }
