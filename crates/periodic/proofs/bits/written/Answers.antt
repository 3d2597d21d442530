-- A bit is set by either word, and cleared by the one that is taken off.
use Rattle.std.proofs.Common.{arith}
use Rattle.std.proofs.lemmas.Nat.Bits.{bit_at_or}
use Rattle.periodic.proofs.Words.{bit_at-without}
use Rattle.periodic.proofs.bits.written.Goals as goal

pub returns-then-taken-clause-inside : goal.returns-then-taken-clause-inside
returns-then-taken-clause-inside c = λ i lt set.
    rw c.if-taken.true (omega (arith, bit_at_or c.args.word c.args.bits i, set))

pub returns-then-taken-clause-outside : goal.returns-then-taken-clause-outside
returns-then-taken-clause-outside c = λ i lt clear. omega (arith, bit_at_or c.args.word c.args.bits i, clear)

pub returns-else-taken-clause-inside : goal.returns-else-taken-clause-inside
returns-else-taken-clause-inside c = λ i lt set.
    let bit = bit_at-without c.args.word c.args.bits i (omega arith) lt in
    rw c.if-taken.false (omega (arith, bit, set))

pub returns-else-taken-clause-outside : goal.returns-else-taken-clause-outside
returns-else-taken-clause-outside c = λ i lt clear.
    let bit = bit_at-without c.args.word c.args.bits i (omega arith) lt in
    omega (arith, bit, clear)
