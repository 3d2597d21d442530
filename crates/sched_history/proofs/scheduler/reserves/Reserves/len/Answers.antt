-- There are as many Reserves as the count says.
use Rattle.std.proofs.Common.{◌≡◌, take, length, arith}
use Rattle.std.proofs.lemmas.List.{length-take}
use Rattle.sched_history.proofs.scheduler.reserves.Reserves.len.Goals as goal

pub returns-clause-value : goal.returns-clause-value
returns-clause-value c =
    let count = c.self.inside.count in
    let items = c.self.inside.items in
    let long : length (take count items) ≡ count =
    omega (arith, length-take count items, c.self.invariant.0, c.self.invariant.1) in
    rw (← c.self.view_is) (omega (arith, long))
