-- The tokens are one thing.
use Rattle.std.proofs.Common.{◌≡◌, [], arith}
use Rattle.call_reading.proofs.Quick.{alone}
use Rattle.call_reading.proofs.usual.read_alone.Goals as goal

pub returns : goal.returns
returns g c =
    let r = c.read.new.reader in
    let over : r ≡ [] = grind arith in
    let is = c.in_ok-thing.ensures.is in
    (is.0, alone c.args.reader.now r is.0 is.1 over, is.2)
