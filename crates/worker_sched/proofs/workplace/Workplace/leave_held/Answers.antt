-- Nothing was added.
use Rattle.std.proofs.Common.{refl, subst}
use Rattle.sched_history.specs.History.{IsLegal}
use Rattle.sched_history.specs.Machine.{Machine}
use Rattle.ticket_lock.specs.Standing.{stamp_of}
use Rattle.sched_desk.specs.Desk.{SharedDesk, IsDeskLock}
use Rattle.sched_desk.proofs.Held.{leaves_entered}
use Rattle.worker_sched.proofs.workplace.Workplace.leave_held.Goals as goal

pub returns : goal.returns
returns c =
    let me = c.args.self.now in
    record {
      left = leaves_entered me.config me.lock c.args.held c.args.desk
          (subst (λ (m : SharedDesk). IsDeskLock m.config m.lock) c.self.view_is c.self.invariant.0)
          c.requires.own c.requires.entered c.leave.result c.args.desk (stamp_of c.args.held) refl c.leave.ensures.left
          refl (subst (λ (y : Machine). IsLegal y.config y.history) c.scheduler.ensures c.history-kept.ensures.legal);
    }
