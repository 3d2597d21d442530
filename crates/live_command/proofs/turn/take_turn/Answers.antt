-- A line more is answered, or the conversation has ended.
use Rattle.std.proofs.lemmas.Result.{err_from_is_err_and}
use Rattle.live_command.proofs.Turning.{stops_anywhere}
use Rattle.live_command.proofs.turn.take_turn.Goals as goal

pub returns-in_err-told-clause-talk : goal.returns-in_err-told-clause-talk
returns-in_err-told-clause-talk g c = λ s v turns same talk.
    let p = err_from_is_err_and c.from_residual.result c.from_residual.ensures.1 in
    rw (p.1, p.2) (c.in_err-told.ensures.talk s v turns talk)

pub returns-in_default-clause-talk : goal.returns-in_default-clause-talk
returns-in_default-clause-talk g c = λ s v turns same talk.
    rw c.in_default.is at (c.in_ok-told.ensures.talk s v turns talk)

pub returns-in_err-take_told-clause-talk : goal.returns-in_err-take_told-clause-talk
returns-in_err-take_told-clause-talk g c = λ s v turns same talk.
    let exit = c.from_residual-in_err-take_told in
    let p = err_from_is_err_and exit.result exit.ensures.1 in
    let tells = rw c.in-Some.is at (c.in_ok-told.ensures.talk s v turns talk) in
    rw (p.1, p.2) (
      c.in_err-take_told.ensures.talk s v turns _ same tells,
      stops_anywhere s _ _ _ _ _ c.in_err-take_told.ensures.err,
    )

pub returns-clause-talk : goal.returns-clause-talk
returns-clause-talk g c = λ s v turns same talk.
    let tells = rw c.in-Some.is at (c.in_ok-told.ensures.talk s v turns talk) in
    c.in_ok-take_told.ensures.talk s v turns _ same tells
