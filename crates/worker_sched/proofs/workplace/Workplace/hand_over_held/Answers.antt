-- The desk handed over what it kept or not, and the seat has left with its mark.
use Rattle.std.proofs.Common.{subst}
use Rattle.sched_desk.specs.Desk.{SharedDesk, IsDeskLock, HasPress, no_press}
use Rattle.sched_desk.proofs.Held.{hands_over_entered}
use Rattle.worker_sched.proofs.workplace.Workplace.hand_over_held.Goals as goal

pub returns : goal.returns
returns c =
    let me = c.args.self.now in
    record {
      given = hands_over_entered me.config me.lock c.args.held c.args.desk
          (subst (λ (m : SharedDesk). IsDeskLock m.config m.lock) c.self.view_is c.self.invariant.0)
          c.requires.own c.requires.entered c.leave-seat.result c.hand_over-answer.new.self c.stamp.result
          c.stamp.ensures.stamp c.leave-seat.ensures.left me.keeps no_press
          (subst (λ (m : SharedDesk). HasPress m.config no_press m.keeps m.lock) c.self.view_is c.self.invariant.1)
          c.args.room c.hand_over-answer.result c.hand_over-answer.ensures.handed c.hand_over-answer.ensures.legal;
    }
