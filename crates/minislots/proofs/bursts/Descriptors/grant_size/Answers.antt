-- It goes by the shorter burst where it may be short, else by the long one.
use Rattle.std.proofs.Common.{sym, arith}
use Rattle.minislots.proofs.BurstLaws.{short-where, shorter-is, long-where}
use Rattle.minislots.proofs.bursts.Descriptors.grant_size.Goals as goal

pub returns-then-from-sizes-clause-slots : goal.returns-then-from-sizes-clause-slots
returns-then-from-sizes-clause-slots c = λ most are.
    rw (long-where c.args.self.now c.requires c.args.sizes most are c.args.bytes (omega arith))
    c.slots-long.ensures.value

pub returns-then-from-sizes-clause-usage : goal.returns-then-from-sizes-clause-usage
returns-then-from-sizes-clause-usage c = λ most are.
    sym (long-where c.args.self.now c.requires c.args.sizes most are c.args.bytes (omega arith))

pub returns-clause-slots : goal.returns-clause-slots
returns-clause-slots c = λ most are.
    rw (c.min.ensures, c.slots-long.ensures.value, c.slots-short.ensures.value)
    (shorter-is c.args.self.now c.requires c.args.sizes most are c.args.bytes (omega arith))

pub returns-clause-usage : goal.returns-clause-usage
returns-clause-usage c = λ most are.
    rw (c.slots-long.ensures.value, c.slots-short.ensures.value)
    (short-where c.args.self.now c.requires c.args.sizes most are c.args.bytes (omega arith))
