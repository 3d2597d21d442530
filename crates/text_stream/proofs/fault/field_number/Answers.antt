-- The first field has the first number.
use Rattle.text_stream.proofs.fault.field_number.Goals as goal

pub returns-in-Ticks : goal.returns-in-Ticks
returns-in-Ticks c = rw c.in-Ticks.is
