-- The text says its call, or it is not JSON.
use Rattle.std.proofs.Common.{Ok, Err, sym, ◌∙◌}
use Rattle.std.specs.Prelude.{◌≢◌}
use Rattle.text_stream.specs.declared.fault.TextFault.TheVariants.{NotJson, Memory}
use Rattle.live_command.proofs.Saying.{asked_of_short}
use Rattle.live_command.proofs.answer.read_short.Goals as goal

pub returns-in-Ok-clause-ok : goal.returns-in-Ok-clause-ok
returns-in-Ok-clause-ok c =
    c.asked_said.ensures ∙ sym (asked_of_short c.args.line.now (Ok c.in-Ok.said) c.requires c.in-Ok.ensures)

pub returns-in-Err-NotJson-clause-ok : goal.returns-in-Err-NotJson-clause-ok
returns-in-Err-NotJson-clause-ok c =
    let says = rw c.in-Err-NotJson.field-0-is at c.in-Err-NotJson.ensures in
    let other : NotJson ≢ Memory = λ e. cc in
    sym (asked_of_short c.args.line.now (Err NotJson) c.requires (says other))
