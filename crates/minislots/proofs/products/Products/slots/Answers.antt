-- The inverses are exact for so many bytes, and nothing on the way is too large.
use Rattle.std.proofs.Common.{◌≡◌, ◌<◌, arith}
use Rattle.std.proofs.lemmas.Nat.{mul-le}
use Rattle.minislots.proofs.ProductLaws.{by_slot-most, bits-few, slots-are, bits_of}
use Rattle.minislots.proofs.products.Products.slots.Goals as goal
use Rattle.minislots.proofs.products.Products.slots.Goals.{After-from-4}

pub overflow_add-whole-2 : goal.overflow_add-whole-2
overflow_add-whole-2 c =
    let few = bits-few c.args.profile.now c.requires.sound c.args.symbols c.requires.positive c.requires.few
    c.args.before c.requires.most in
    rw (c.from.ensures, c.from-2.ensures, c.from-3.ensures, c.requires.numbers) (omega (arith, few))

pub overflow_add-full : goal.overflow_add-full
overflow_add-full c =
    let few = bits-few c.args.profile.now c.requires.sound c.args.symbols c.requires.positive c.requires.few
    c.args.before c.requires.most in
    rw (c.from.ensures, c.from-2.ensures, c.from-3.ensures, c.requires.numbers) (omega (arith, few))

-- the bits of the burst
bits-is : (c : After-from-4) → c.from-4.result
    ≡ bits_of c.args.profile.now c.requires.sound c.args.symbols c.requires.positive c.requires.few c.args.before
bits-is c = rw (
  c.from-4.ensures,
  c.max-bits.ensures,
  c.from.ensures,
  c.from-2.ensures,
  c.from-3.ensures,
  c.requires.numbers,
) (omega arith)

bits-below : (c : After-from-4) → c.from-4.result < 16777216
bits-below c = rw (bits-is c) (bits-few c.args.profile.now c.requires.sound c.args.symbols c.requires.positive
    c.requires.few c.args.before c.requires.most)

pub overflow_mul-result : goal.overflow_mul-result
overflow_mul-result c =
    let most = by_slot-most c.args.profile.now c.requires.sound c.args.symbols c.requires.positive c.requires.few in
    rw c.requires.numbers
    (omega (arith, mul-le c.from-4.result _ 16777215 549755813889 (omega (arith, bits-below c)) most))

pub returns-clause-value : goal.returns-clause-value
returns-clause-value c =
    let are = slots-are c.args.profile.now c.requires.sound c.args.symbols c.requires.positive c.requires.few
    c.args.before c.requires.most in
    rw (bits-is c, c.requires.numbers) are

pub returns-clause-small : goal.returns-clause-small
returns-clause-small c =
    let most = by_slot-most c.args.profile.now c.requires.sound c.args.symbols c.requires.positive c.requires.few in
    rw c.requires.numbers
    (omega (arith, mul-le c.from-4.result _ 16777215 549755813889 (omega (arith, bits-below c)) most))
