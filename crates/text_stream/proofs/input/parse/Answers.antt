-- The reader of JSON says what the text stands for, and that other text stands for nothing.
use Rattle.std.proofs.Common.{◌≡◌, true}
use Rattle.serde_json.specs.View.{view}
use Rattle.text_stream.proofs.Bytes.{value_of-Ok, value_of-Err}
use Rattle.text_stream.proofs.input.parse.Goals as goal

pub returns-in-Ok : goal.returns-in-Ok
returns-in-Ok c = let found = c.in-Ok.ensures.ok in value_of-Ok c.args.bytes.now (view c.in-Ok.value) found.0 found.1

pub returns-in-Err-2 : goal.returns-in-Err-2
returns-in-Err-2 c = λ _. value_of-Err c.args.bytes.now (c.in-Err.ensures.err
    (λ memory. let said : c.is_memory.result ≡ true = c.is_memory.ensures.1 memory in cc))
