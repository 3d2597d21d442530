-- The groups are those without the flow, but such as had no other.
use Rattle.periodic.proofs.group.take_out.Goals as goal

pub returns-clause-sound : goal.returns-clause-sound
returns-clause-sound c = λ config sound. c.close.ensures.sound config (c.lift_out.ensures.sound config sound)
