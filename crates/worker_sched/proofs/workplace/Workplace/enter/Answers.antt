-- The seat has seen what others had added, and the desk is as it was entered.
use Rattle.std.proofs.Common.{sym, ap, ◌∙◌}
use Rattle.ticket_lock.specs.Standing.{Standing, head_of}
use Rattle.sched_desk.specs.declared.event.Event.{Event}
use Rattle.sched_desk.specs.Desk.{FixedDesk}
use Rattle.worker_sched.proofs.Turned.{has_entered}
use Rattle.worker_sched.proofs.workplace.Workplace.enter.Goals as goal

pub returns-clause-entered : goal.returns-clause-entered
returns-clause-entered c =
    let told = c.in_ok-holder.ensures.entered in (
      has_entered c.args.self.now.config c.args.ticket c.in_ok-holder.holder c.in_ok-holder.holder
          c.in_ok-holder.desk told,
      record {
        head_is = told.head_is ∙ sym (ap (λ (u : Standing FixedDesk Event). head_of u.lock) told.entered);
        entries_are = told.entries_are;
      },
    )
