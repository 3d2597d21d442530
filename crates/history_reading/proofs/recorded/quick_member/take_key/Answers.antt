-- The key stands first in its usual spelling.
use Rattle.std.proofs.Common.{ap}
use Rattle.json.specs.Json.{read_key}
use Rattle.history_reading.specs.Key.{key_of}
use Rattle.history_reading.proofs.Keys.{plain_key}
use Rattle.history_reading.proofs.recorded.quick_member.take_key.Goals as goal

pub returns-then-take_spelled_key : goal.returns-then-take_spelled_key
returns-then-take_spelled_key c =
    let key = c.args.key in
    ap read_key (c.if-take_spelled_key.ensures (key_of key) (plain_key key) c.spelled.ensures)
