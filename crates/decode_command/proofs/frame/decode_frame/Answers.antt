-- A text is its bytes.
use Rattle.decode_command.proofs.frame.decode_frame.Goals as goal

pub returns-clause-exact : goal.returns-clause-exact
returns-clause-exact g c = rw c.as_bytes.ensures.value at c.decode_frame_digits.ensures.exact
