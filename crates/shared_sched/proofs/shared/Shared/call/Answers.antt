-- A turn that was taken at once, by this thread or by another is one call.
use Rattle.std.proofs.Common.{◌+◌, subst}
use Rattle.ticket_lock.specs.Standing.{Standing}
use Rattle.call_queue.specs.Turns.{TakesTurn}
use Rattle.call_queue.proofs.Turned.{turn_looked}
use Rattle.sched_desk.specs.declared.event.Event.{Event}
use Rattle.sched_desk.specs.Desk.{FixedDesk, SharedDesk, IsDeskLock, fixed_of, events_of}
use Rattle.sched_desk.specs.Events.{author_of}
use Rattle.shared_sched.specs.Calls.{IsMade}
use Rattle.shared_sched.proofs.Called.{calls, calls_in_turn}
use Rattle.shared_sched.proofs.shared.Shared.call.Goals as goal

pub returns-in-Ok : goal.returns-in-Ok
returns-in-Ok g c = record {
  answered = calls c.args.self.now.config c.args.seat c.draw-ticket.result c.in-Ok.held c.call_held.result.0
      c.in-Ok.desk c.draw-ticket.ensures.drawn c.in-Ok.ensures.entered c.args.call c.call_held.result.1
      c.call_held.ensures.answered;
}

pub returns-in-Err : goal.returns-in-Err
returns-in-Err g c =
    let me = c.args.self.now in
    let t = c.draw-ticket.result in
    let w = c.leave_call-seat.result.0 in
    let answer = c.leave_call-seat.result.1 in
    record {
      answered = calls_in_turn me.config me.lock
          (subst (λ (m : SharedDesk). IsDeskLock m.config m.lock) c.self.view_is c.self.invariant.0)
          c.args.call answer c.args.seat w c.requires.own
          (record {
            ticket = t;
            drawn = c.draw-ticket.ensures.drawn;
            turn = turn_looked author_of fixed_of events_of IsMade c.args.call answer t w (t.looks + 1)
                (subst (λ (u : Standing FixedDesk Event).
                TakesTurn author_of fixed_of events_of IsMade c.args.call answer u w)
                c.in-Err.ensures.given_back c.leave_call-seat.ensures.turn);
          });
    }
