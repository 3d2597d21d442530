use Rattle.std.proofs.Common.{◌∙◌, ap, arith}
use Rattle.minislots.proofs.Bounds.{bounds_of}
use Rattle.sched_history.specs.Situation.{situation_of}
use Rattle.sched_history.proofs.placements.PeriodicFlows.{ArePeriodicOf-legal}
use Rattle.sched_history.proofs.state.Present.{grants-placed_by}
use Rattle.sched_history.proofs.scheduler.present.Present.periodic_grants.Goals as goal

pub returns-clause-value : goal.returns-clause-value
returns-clause-value c = rw (← c.self.view_is)
    (c.grants.ensures.value ∙ grants-placed_by c.self.inside.state.now
    (situation_of c.self.inside.state.now.config c.self.inside.ledger.now) c.self.invariant.is_after
    (ArePeriodicOf-legal c.self.inside.state.now.config c.self.inside.ledger.now c.self.invariant.legal))

pub returns-clause-most : goal.returns-clause-most
returns-clause-most c =
    let value = c.grants.ensures.value in
    let most = c.grants.ensures.sound.most in
    let is_after = c.self.invariant.is_after in
    omega (arith, value, most, ap (λ k. k.periodic) is_after.table_config, (bounds_of _ is_after.lawful).periodic_most)
