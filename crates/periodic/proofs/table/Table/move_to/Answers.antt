-- The flow is made of its placement.
use Rattle.std.proofs.Common.{ℕ, sym, subst}
use Rattle.periodic.specs.Placement.{Placed, IsPlacement}
use Rattle.periodic.specs.Table.{without}
use Rattle.periodic.proofs.table.Table.move_to.Goals as goal

pub put_instead-requires-clause-lawful : goal.put_instead-requires-clause-lawful
put_instead-requires-clause-lawful c =
    subst (λ (p : Placed). (next : ℕ)
    × IsPlacement c.args.self.now.config (without p.sid c.args.self.now.placed) p.spec next p.placement)
    (sym c.at-flow.ensures.placed) c.requires.lawful
