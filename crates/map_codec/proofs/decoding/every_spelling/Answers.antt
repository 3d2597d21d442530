-- The laws of the wire form.
use Rattle.map_codec.proofs.Payload.{map_in-spelling, one_value, exact}
use Rattle.map_codec.proofs.decoding.every_spelling.Goals as goal

pub returns-clause-one_value : goal.returns-clause-one_value
returns-clause-one_value c = one_value

pub returns-clause-read_back : goal.returns-clause-read_back
returns-clause-read_back c = map_in-spelling

pub returns-clause-exact : goal.returns-clause-exact
returns-clause-exact c = exact
