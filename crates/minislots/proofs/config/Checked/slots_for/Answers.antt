-- More bytes take no fewer minislots.
use Rattle.minislots.proofs.Bounds.{bounds_of}
use Rattle.minislots.proofs.UnitLaws.{slots_for-rises}
use Rattle.minislots.proofs.config.Checked.slots_for.Goals as goal

pub returns-clause-rises : goal.returns-clause-rises
returns-clause-rises c =
    let it = c.args.self.now in
    slots_for-rises it (bounds_of it c.grant_size.ensures.lawful).bursts _ _ c.grant_size.ensures.slots
