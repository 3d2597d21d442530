-- The seat that left its ticket has taken its turn, and made that call.
use Rattle.std.proofs.Common.{ap}
use Rattle.call_queue.proofs.queue.CallQueue.make_next.Goals as goal

pub answer-due-requires-clause-answers : goal.answer-due-requires-clause-answers
answer-due-requires-clause-answers g c = (
  (c.args.taken.ticket, c.args.taken.call),
  ap (λ s. s.left) c.requires.taken,
  record {
    holder = c.enter-held.result.0;
    handed = c.enter-held.result.1;
    entered = c.enter-held.ensures.entered;
    ended = c.turn-seat.ensures.ended;
  },
)
