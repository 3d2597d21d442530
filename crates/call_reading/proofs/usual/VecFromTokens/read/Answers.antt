-- The bracket was taken, and the items behind it stand for the things.
use Rattle.std.proofs.Common.{◌≡◌, ◌∷◌, arith}
use Rattle.json.specs.Token.{Token}
use Rattle.json_fields.proofs.Things.{array_of_things}
use Rattle.call_reading.proofs.usual.VecFromTokens.read.Goals as goal

pub returns-clause-is : goal.returns-clause-is
returns-clause-is g c =
    let is : c.args.reader.now ≡ Token.begin_array ∷ c.open_array.new.self = grind arith in
    array_of_things g.X.FromTokens.stands_for c.args.depth c.args.reader.now c.open_array.new.self
    c.read_things.new.reader c.read_things.result (omega arith) is c.read_things.ensures.are
