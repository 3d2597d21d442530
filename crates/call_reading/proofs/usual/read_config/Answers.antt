-- The key, and the object under it.
use Rattle.std.proofs.Common.{codes, Some, sym, arith}
use Rattle.json.proofs.Grammar.{read_key-shorter}
use Rattle.json_fields.specs.Plain.{data_of}
use Rattle.call_reading.proofs.usual.read_config.Goals as goal

pub returns : goal.returns
returns c =
    let s = c.take_name.new.reader in
    let key = c.in_ok-take_name.ensures in
    let value = c.in_ok-value.ensures in
    record {
      is = (s, data_of c.in_ok-value.value, key, value.is, sym c.in-Some.ensures);
      shorter = omega (arith, read_key-shorter c.args.reader.now (Some (codes "config")) s key, value.shorter);
    }
