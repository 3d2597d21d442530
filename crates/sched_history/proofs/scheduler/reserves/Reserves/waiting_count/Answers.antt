-- As many wait as there are Reserves, and 16 at most.
use Rattle.std.proofs.Common.{take, arith}
use Rattle.std.proofs.lemmas.List.{length-take}
use Rattle.sched_history.proofs.scheduler.reserves.Reserves.waiting_count.Goals as goal

pub returns-then-self-lt-MAX_WAITING-clause-value : goal.returns-then-self-lt-MAX_WAITING-clause-value
returns-then-self-lt-MAX_WAITING-clause-value c =
    let count = c.self.inside.count in
    let items = c.self.inside.items in
    rw (← c.self.view_is) (omega (
      arith,
      length-take 16 (take count items),
      length-take count items,
      c.self.invariant.0,
      c.if-self-lt-MAX_WAITING.true,
    ))

pub returns-else-self-lt-MAX_WAITING-clause-value : goal.returns-else-self-lt-MAX_WAITING-clause-value
returns-else-self-lt-MAX_WAITING-clause-value c =
    let count = c.self.inside.count in
    let items = c.self.inside.items in
    rw (← c.self.view_is) (omega (
      arith,
      length-take 16 (take count items),
      length-take count items,
      c.self.invariant.0,
      c.if-self-lt-MAX_WAITING.false,
    ))
