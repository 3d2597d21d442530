-- The key, and the list under it.
use Rattle.std.proofs.Common.{Some, arith}
use Rattle.json.proofs.Grammar.{read_key-shorter}
use Rattle.call_reading.proofs.usual.read_list.Goals as goal

pub returns : goal.returns
returns g c =
    let s = c.take_name.new.reader in
    let key = c.in_ok-take_name.ensures in
    let list = c.in_ok-list.ensures in
    record {
      is = (s, list.is.0, key, list.is.1, list.is.2);
      shorter = omega (arith, read_key-shorter c.args.reader.now (Some c.args.name.now) s key, list.shorter);
    }
