-- So many numbers of bytes have bursts that are short enough.
use Rattle.minislots.proofs.BurstLaws.{by_sizes}
use Rattle.minislots.proofs.bursts.Bursts.grant_size.Goals as goal

pub returns-in-Uniform-clause-usage : goal.returns-in-Uniform-clause-usage
returns-in-Uniform-clause-usage c = λ most are.
    let decides = by_sizes c.args.self.now c.requires most c.args.bytes in
    rw (c.from.ensures, are) (rw c.in-Uniform.is (rw c.in-Uniform.is at decides))
