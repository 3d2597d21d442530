-- The scheduler that is taken out is that of the desk entered.
use Rattle.std.proofs.Common.{sym, ap, ◌∙◌, subst}
use Rattle.sched_history.specs.History.{IsLegal}
use Rattle.sched_history.specs.Machine.{Machine}
use Rattle.sched_desk.specs.Desk.{SharedDesk, IsDeskLock, HasPress, no_press}
use Rattle.worker_sched.proofs.Ended.{ends_with}
use Rattle.worker_sched.proofs.workplace.Workplace.take_out.Goals as goal

pub returns-clause-ended : goal.returns-clause-ended
returns-clause-ended c =
    let me = c.args.self.now in
    let told = c.into_recorder-scheduler.ensures in
    let m = c.into_recorder-scheduler.result.0.value in
    let legal = subst (λ (y : Machine). IsLegal y.config y.history) c.deref.ensures c.history-history.ensures.legal in
    ends_with me.config me.keeps me.lock
    (subst (λ (d : SharedDesk). IsDeskLock d.config d.lock) c.self.view_is c.self.invariant.0)
    (subst (λ (d : SharedDesk). HasPress d.config no_press d.keeps d.lock) c.self.view_is c.self.invariant.1)
    c.args.seat c.draw.result c.in_ok-held.held c.requires.own c.in_ok-held.desk c.draw.ensures.drawn
    c.in_ok-held.ensures.entered m told.machine legal told.whole.whole
