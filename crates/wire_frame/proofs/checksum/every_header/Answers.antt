-- What one changed bit or two leave in the register is never nothing.
use Rattle.wire_frame.proofs.Distance.{finds_two_bits}
use Rattle.wire_frame.proofs.checksum.every_header.Goals as goal

pub returns : goal.returns
returns c = finds_two_bits
