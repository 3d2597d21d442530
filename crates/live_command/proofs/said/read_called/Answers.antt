-- The text is one call.
use Rattle.std.proofs.Common.{Ok, ap, ◌∙◌}
use Rattle.live_command.proofs.Read.{said_in-value, said_by-call}
use Rattle.live_command.proofs.said.read_called.Goals as goal

pub returns : goal.returns
returns c =
    let is = c.in_ok-call.ensures in
    said_in-value c.args.bytes.now is.0 is.1 ∙ ap Ok (said_by-call is.0 c.in_ok-call.call is.2.0 is.2.1)
