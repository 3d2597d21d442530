-- As many are told as wait.
use Rattle.std.proofs.Common.{◌≡◌, ◌∙◌, ℕ, take, length, ap, subst, arith}
use Rattle.sched_history.specs.Reserves.{asked_for}
use Rattle.sched_history.proofs.reserves.Rooms.{front-of}
use Rattle.sched_history.proofs.scheduler.reserves.Reserves.waiting.Goals as goal

pub returns : goal.returns
returns c =
    let count = c.self.inside.count in
    let items = c.self.inside.items in
    let waiting = c.loop-place.waiting in
    let n : ℕ = length (take 16 (take count items)) in
    let all : c.waiting_count-place-end.result ≡ n = rw (← c.self.view_is) at c.waiting_count-place-end.ensures.value in
    let end : c.loop-place.place ≡ n = omega (arith, c.loop-place.auto.place-end, c.loop-place-test.false, all) in
    let told = subst (λ k. take k waiting ≡ asked_for (take k items)) end c.loop-place.invariant.told in
    rw (← c.self.view_is) (told ∙ ap asked_for (front-of 16 count items))
