-- The key has this name.
use Rattle.std.proofs.Common.{◌≡◌, true, bytes_eq, Some, ap, ◌∙◌, arith}
use Rattle.std.proofs.lemmas.Slice.Eq.{bytes_eq-Decides}
use Rattle.json.specs.Json.{read_key}
use Rattle.call_reading.proofs.usual.take_name.Goals as goal

pub returns : goal.returns
returns c =
    let k = c.in-Some.key.now in
    let s = c.next_key.new.reader in
    let same : bytes_eq k c.args.name.now ≡ true = grind arith in
    let key : read_key c.args.reader.now ≡ Some (Some k, s) = grind arith in
    key ∙ ap (λ k. Some (Some k, s)) ((bytes_eq-Decides k c.args.name.now).0 same)
