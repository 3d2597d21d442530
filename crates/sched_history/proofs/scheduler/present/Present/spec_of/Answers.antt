use Rattle.std.proofs.Common.{◌∙◌, ap, option_map}
use Rattle.sched_history.specs.Situation.{situation_of}
use Rattle.sched_history.proofs.state.Present.{flow_of-kept}
use Rattle.sched_history.proofs.scheduler.present.Present.spec_of.Goals as goal

pub returns : goal.returns
returns c = rw (← c.self.view_is)
    (c.flow.ensures ∙ ap (option_map (λ f. f.spec)) (flow_of-kept c.self.inside.state.now
    (situation_of c.self.inside.state.now.config c.self.inside.ledger.now) c.args.sid c.self.invariant.is_after))
