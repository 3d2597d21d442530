-- The ones of a word, shifted up by what is skipped.
use Rattle.std.proofs.Common.{arith}
use Rattle.periodic.proofs.Words.{ones-on, ones-below}
use Rattle.periodic.proofs.bits.bits_from.Goals as goal

pub returns-then-skipped-lt64-clause-inside : goal.returns-then-skipped-lt64-clause-inside
returns-then-skipped-lt64-clause-inside c = λ i lt from.
    ones-on c.saturating_sub-skipped.result i (omega arith) (omega arith) lt

pub returns-then-skipped-lt64-clause-outside : goal.returns-then-skipped-lt64-clause-outside
returns-then-skipped-lt64-clause-outside c = λ i below.
    ones-below c.saturating_sub-skipped.result i (omega arith) (omega arith)
