-- The line that was told is the opening.
use Rattle.check_lines.proofs.Openings.{FindsOpening-read, FailsAt-long}
use Rattle.check_lines.proofs.opening.read_opening.Goals as goal

pub returns-in-Ok-Some-default-Line-clause-finds : goal.returns-in-Ok-Some-default-Line-clause-finds
returns-in-Ok-Some-default-Line-clause-finds g c =
    let line = c.in-Ok-Some-default-Line in
    let finds = (rw line.field-0-is at line.ensures).finds in
    let told = rw line.field-0-0-1-is at finds in
    FindsOpening-read _ _ _ _ c.line.result.now c.read_text.result told c.line.ensures c.read_text.ensures.ok

pub returns-in_ok-words_on_long_config-in-Ok-Some-default-Long-clause-finds :
    goal.returns-in_ok-words_on_long_config-in-Ok-Some-default-Long-clause-finds
returns-in_ok-words_on_long_config-in-Ok-Some-default-Long-clause-finds g c =
    let line = c.in-Ok-Some-default-Long in
    let finds = (rw line.field-0-is at line.ensures).finds in
    let told = rw line.field-0-0-1-is at finds in
    FailsAt-long _ _ _ _ told
