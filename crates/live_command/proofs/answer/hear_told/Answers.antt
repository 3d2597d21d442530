-- A long line has its fault.
use Rattle.std.proofs.Common.{◌<◌, length, refl, subst}
use Rattle.text_stream.specs.declared.TheConstants.{MAX_LINE}
use Rattle.text_stream.specs.Told.{IsTold}
use Rattle.live_command.proofs.Saying.{asked_of_long, spoken_long}
use Rattle.live_command.proofs.answer.hear_told.Goals as goal

pub returns-in-Long-clause-ok : goal.returns-in-Long-clause-ok
returns-in-Long-clause-ok c = λ line told.
    let long : MAX_LINE < length line = subst (λ t. IsTold line t c.args.lines.now.line) c.in-Long.is told in
    rw (spoken_long line long, asked_of_long line long) refl
