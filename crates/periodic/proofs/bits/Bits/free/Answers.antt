-- Words of zeros have no bit set.
use Rattle.periodic.proofs.Words.{bit_of-zeros}
use Rattle.periodic.proofs.bits.Bits.free.Goals as goal

pub returns : goal.returns
returns c = bit_of-zeros
