-- What is moved was found lawful.
use Rattle.std.proofs.Common.{refl}
use Rattle.periodic.proofs.table.Table.adopt_anew.Goals as goal

pub move_to-requires-clause-lawful : goal.move_to-requires-clause-lawful
move_to-requires-clause-lawful c =
    rw (c.takes_without.ensures.same, c.in_ok-kept.ensures) (c.args.next, c.if-not-takes_without.ensures.lawful refl)
