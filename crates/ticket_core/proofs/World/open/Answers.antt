-- The words of a lock just opened are those of the opened world.
use Rattle.ticket_core.specs.LockWorld.{opened_world}
use Rattle.ticket_core.proofs.Lawful.{IsLawful-opened_world}
use Rattle.ticket_core.proofs.Fields.{words_with-opened}
use Rattle.ticket_core.proofs.World.open.Goals as goal

pub invariant_of-result : goal.invariant_of-result
invariant_of-result c = (
  c.requires.room,
  record {
    world = opened_world c.args.seats c.args.first;
    lawful = IsLawful-opened_world c.args.seats c.args.first;
    stands = words_with-opened c.args.seats c.args.first c.requires.room c.ranges.first.fits;
  },
)

pub returns-clause-opened : goal.returns-clause-opened
returns-clause-opened c = words_with-opened c.args.seats c.args.first c.requires.room c.ranges.first.fits
