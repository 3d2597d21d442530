-- There is room, or all that was kept is handed over.
use Rattle.live_command.proofs.Turning.{first_of_two}
use Rattle.live_command.proofs.turn.make_room.Goals as goal

pub returns-clause-talk : goal.returns-clause-talk
returns-clause-talk g c = λ s v turns left talk.
    first_of_two _ _ _ c.settle.result (c.settle.ensures.talk s v turns left talk)
