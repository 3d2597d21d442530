-- The run is next, or each of its tokens.
use Rattle.std.proofs.Common.{codes}
use Rattle.call_reading.specs.declared.field.Field.TheVariants.{Name}
use Rattle.call_reading.specs.Field.{key_of}
use Rattle.call_reading.proofs.Fields.{plain_key}
use Rattle.call_reading.proofs.usual_call.take_named.Goals as goal

pub returns-then-take_spelled_run : goal.returns-then-take_spelled_run
returns-then-take_spelled_run c _ content field plain run name behind =
    (rw c.if-take_spelled_run.true at c.take_spelled_run.ensures) (codes "call") content (key_of field) (plain_key Name)
    plain (plain_key field) run
