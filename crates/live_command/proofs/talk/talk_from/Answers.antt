-- A conversation begins with the line that was told, and goes on.
use Rattle.std.proofs.lemmas.Result.{err_from_is_err_and}
use Rattle.live_command.proofs.GoingOn.{begins_quiet}
use Rattle.live_command.proofs.Turning.{stops_anywhere}
use Rattle.live_command.proofs.talk.talk_from.Goals as goal

pub returns-in_err-outbox-clause-talk : goal.returns-in_err-outbox-clause-talk
returns-in_err-outbox-clause-talk g c = λ s v same begins.
    let p = err_from_is_err_and c.from_residual.result c.from_residual.ensures.1 in
    rw (p.1, p.2) (begins_quiet s _ _ _ _ _ _ c.args.told begins, tt)

pub returns-in_err-take_first-clause-talk : goal.returns-in_err-take_first-clause-talk
returns-in_err-take_first-clause-talk g c = λ s v same begins.
    let exit = c.from_residual-in_err-take_first in
    let p = err_from_is_err_and exit.result exit.ensures.1 in
    let empty = rw (← c.in_ok-outbox.ensures) at begins in
    rw (p.1, p.2) (
      c.in_err-take_first.ensures.talk s v _ same empty,
      stops_anywhere s _ _ _ _ _ c.in_err-take_first.ensures.err,
    )

pub returns-clause-talk : goal.returns-clause-talk
returns-clause-talk g c = λ s v same begins.
    let empty = rw (← c.in_ok-outbox.ensures) at begins in
    c.talk_on.ensures.talk s v same (c.in_ok-take_first.ensures.talk s v _ same empty)
