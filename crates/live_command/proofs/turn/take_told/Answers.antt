-- The line is read, there is room, and then it is answered.
use Rattle.std.proofs.lemmas.Result.{err_from_is_err_and}
use Rattle.live_command.proofs.Saying.{AnswersLines-heard, SaysOne-line}
use Rattle.live_command.proofs.Talking.{Talk-line, Stopped-quiet, Stopped-unput}
use Rattle.live_command.proofs.turn.take_told.Goals as goal

pub returns-in_err-make_room-clause-talk : goal.returns-in_err-make_room-clause-talk
returns-in_err-make_room-clause-talk g c = λ s v turns left same tells.
    let exit = c.from_residual-in_err-make_room in
    let p = err_from_is_err_and exit.result exit.ensures.1 in
    rw p.1 (c.in_err-make_room.ensures.talk s v turns _ tells.talk)

pub returns-in_err-settle-in-Err-clause-talk : goal.returns-in_err-settle-in-Err-clause-talk
returns-in_err-settle-in-Err-clause-talk g c = λ s v turns left same tells.
    let exit = c.from_residual in
    let p = err_from_is_err_and exit.result exit.ensures.1 in
    rw p.1 (c.in_err-settle-in-Err.ensures.talk s v turns _ tells.talk)

pub returns-in-Err-clause-talk : goal.returns-in-Err-clause-talk
returns-in-Err-clause-talk g c = λ s v turns left same tells.
    Stopped-quiet s turns _ _ _ _ _ (c.in_ok-settle-in-Err.ensures.talk s v turns _ tells.talk).0

pub returns-in_err-answer-clause-talk : goal.returns-in_err-answer-clause-talk
returns-in_err-answer-clause-talk g c = λ s v turns left same tells.
    let exit = c.from_residual-in_err-answer in
    let p = err_from_is_err_and exit.result exit.ensures.1 in
    let room = c.in_ok-make_room.ensures.talk s v turns _ tells.talk in
    let one = (rw (← same) at c.in_err-answer.ensures.unput) room.now room.history room.counted in
    let says = SaysOne-line s.wording tells.line c.in-Ok.heard room.now _ _ (c.in-Ok.ensures.ok tells.line tells.is)
    one in
    rw p.1 (Stopped-unput s turns _ _ _ _ _ room tells.line one.texts one.point _ _ one.history tells.taken
    (rw room.config at says))

pub returns-clause-talk : goal.returns-clause-talk
returns-clause-talk g c = λ s v turns left same tells.
    let room = c.in_ok-make_room.ensures.talk s v turns _ tells.talk in
    let heard = (rw (← same) at c.in_ok-answer.ensures.ok) room.now room.history room.counted in
    let answers = AnswersLines-heard s.wording tells.line c.in-Ok.heard room.now _ _
    (c.in-Ok.ensures.ok tells.line tells.is) _ _ heard in
    Talk-line s turns _ _ _ _ _ room tells.line _ _ _ tells.taken answers
