-- What is shown of a text.
use Rattle.decode_command.proofs.table.decode_digits.Goals as goal

pub returns-in-Ok-clause-exact : goal.returns-in-Ok-clause-exact
returns-in-Ok-clause-exact g c = rw (c.in-Ok.ensures.ok, ← c.deref.ensures.value) c.put_decoded.ensures.exact
