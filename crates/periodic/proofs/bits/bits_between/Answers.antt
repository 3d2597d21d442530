-- The bits from the start on, without those from the end on.
use Rattle.std.proofs.Common.{arith}
use Rattle.periodic.proofs.Words.{bit_at-without}
use Rattle.periodic.proofs.bits.bits_between.Goals as goal

pub returns-clause-inside : goal.returns-clause-inside
returns-clause-inside c = λ i lt from to.
    let bit = bit_at-without c.bits_from.result c.bits_from-2.result i (omega arith) lt in
    omega (arith, bit, c.bits_from.ensures.inside i lt from, c.bits_from-2.ensures.outside i to)

pub returns-clause-below : goal.returns-clause-below
returns-clause-below c = λ i lt below.
    let bit = bit_at-without c.bits_from.result c.bits_from-2.result i (omega arith) lt in
    omega (arith, bit, c.bits_from.ensures.outside i below)

pub returns-clause-above : goal.returns-clause-above
returns-clause-above c = λ i lt above.
    let bit = bit_at-without c.bits_from.result c.bits_from-2.result i (omega arith) lt in
    omega (arith, bit, c.bits_from-2.ensures.inside i lt above)
