-- Bytes that pass the tests have no fault of length.
use Rattle.std.proofs.Common.{rules}
use Rattle.map_codec.proofs.decoding.check_length.Goals as goal

pub returns-clause-exact : goal.returns-clause-exact
returns-clause-exact c = search rules
