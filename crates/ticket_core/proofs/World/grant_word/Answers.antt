-- The word tells a waiting seat its turn, as it is the grant of the world.
use Rattle.std.proofs.Common.{rules, ◌≡◌, ◌≤◌, length, take, ap, sym, arith, length-take}
use Rattle.ticket_core.specs.World.{Words}
use Rattle.ticket_core.proofs.Grants.{TellsTurns-grant}
use Rattle.ticket_core.proofs.World.grant_word.Goals as goal

pub returns-clause-tells : goal.returns-clause-tells
returns-clause-tells c =
    let count : length c.args.self.now.shown ≡ length (take c.self.inside.seats c.self.inside.states) =
    ap (λ (v : Words). length v.shown) (sym c.self.view_is) in
    let within : c.self.inside.seats ≤ 64 = c.self.invariant.0 in
    let few : length c.args.self.now.shown ≤ 64 = grind (arith, count, within, length-take) in
    TellsTurns-grant c.args.self.now c.args.index _ few (λ w stands. search rules)
