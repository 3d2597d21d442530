-- A conflict with others leaves the id.
use Rattle.std.proofs.Common.{codes}
use Rattle.std.proofs.lemmas.Result.{IfOk-weaker}
use Rattle.command_line.proofs.Options.{IsOption-conflict}
use Rattle.command_line.proofs.run_frames_option.Goals as goal

pub returns : goal.returns
returns c =
    let once = IfOk-weaker _ _ _ (λ r adds. IsOption-conflict c.frames_flag.ensures adds.0) c.conflicts_with-frames.ensures in
    let twice = c.against.ensures (codes "frames") once in
    c.against-2.ensures (codes "frames") twice
