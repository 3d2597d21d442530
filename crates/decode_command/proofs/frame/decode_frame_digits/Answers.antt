-- What is shown of a text.
use Rattle.decode_command.proofs.frame.decode_frame_digits.Goals as goal

pub returns-in-Ok-clause-exact : goal.returns-in-Ok-clause-exact
returns-in-Ok-clause-exact g c = rw (c.in-Ok.ensures.ok, ← c.deref.ensures.value) c.put_frame.ensures.exact
