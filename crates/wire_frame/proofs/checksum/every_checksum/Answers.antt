-- The complement of the register is the one checksum of a message.
use Rattle.wire_frame.specs.Checksum.{ccitt, ethernet}
use Rattle.wire_frame.proofs.Sums.{has_one_sum}
use Rattle.wire_frame.proofs.checksum.every_checksum.Goals as goal

pub returns-clause-hcs : goal.returns-clause-hcs
returns-clause-hcs c = has_one_sum ccitt

pub returns-clause-crc : goal.returns-clause-crc
returns-clause-crc c = has_one_sum ethernet
