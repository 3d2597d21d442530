-- The holder made its call, and its seat has left with what that added.
use Rattle.std.proofs.Common.{subst}
use Rattle.sched_desk.specs.Desk.{SharedDesk, IsDeskLock}
use Rattle.shared_sched.proofs.Called.{ends_turn}
use Rattle.shared_sched.proofs.shared.Shared.call_held.Goals as goal

pub returns : goal.returns
returns g c =
    let me = c.args.self.now in
    record {
      answered = ends_turn me.config me.lock
          (subst (λ (m : SharedDesk). IsDeskLock m.config m.lock) c.self.view_is c.self.invariant.0)
          c.args.call c.make-answer.result c.args.held c.leave_and_go_on-seat.result c.args.desk c.requires.own
          c.requires.entered
          (record {
            given = c.make-answer.new.value;
            called = c.make-answer.ensures.made;
            left = c.leave_and_go_on-seat.ensures.left;
          });
    }
