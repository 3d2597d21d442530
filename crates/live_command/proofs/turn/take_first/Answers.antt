-- The line that was told is answered, where one was.
use Rattle.live_command.proofs.Turning.{talk_again}
use Rattle.live_command.proofs.turn.take_first.Goals as goal

pub returns-in-Some-clause-talk : goal.returns-in-Some-clause-talk
returns-in-Some-clause-talk g c = λ s v left same begins.
    let tells = rw c.in-Some.is at begins in
    talk_again s _ _ _ _ _ _ c.take_told.result (c.take_told.ensures.talk s v 0 left same tells)

pub returns-in-None-clause-talk : goal.returns-in-None-clause-talk
returns-in-None-clause-talk g c = λ s v left same begins. rw c.in-None.is at begins
