-- What is added was found lawful.
use Rattle.std.proofs.Common.{refl}
use Rattle.periodic.proofs.table.Table.adopt.Goals as goal

pub add-requires-clause-lawful : goal.add-requires-clause-lawful
add-requires-clause-lawful c = (c.args.next, rw c.as_slice.ensures (c.if-not-takes.ensures.lawful refl))
