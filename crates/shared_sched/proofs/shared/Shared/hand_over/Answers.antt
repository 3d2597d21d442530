-- The draw, the entry and what the holder hands over are one call.
use Rattle.shared_sched.proofs.Called.{hands_over}
use Rattle.shared_sched.proofs.shared.Shared.hand_over.Goals as goal

pub returns : goal.returns
returns g c = record {
  given = hands_over c.args.self.now.config c.args.seat c.draw-ticket.result c.enter-held.result.0
      c.hand_over_held.result.0 c.enter-held.result.1 c.draw-ticket.ensures.drawn c.enter-held.ensures.entered
      c.args.self.now.keeps c.args.room c.hand_over_held.result.1 c.hand_over_held.ensures.given;
}
