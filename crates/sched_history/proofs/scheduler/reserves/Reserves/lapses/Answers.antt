-- One Reserve more is counted where it lapses.
use Rattle.std.proofs.Common.{◌∙◌, ◌+◌, ◌<◌, take, length, ap, sym, arith}
use Rattle.sched_history.specs.Reserves.{lapses_of}
use Rattle.sched_history.proofs.reserves.Lapsing.{lapses-none, lapses-next}
use Rattle.sched_history.proofs.scheduler.reserves.Reserves.lapses.Goals as goal

pub loop-place-init : goal.loop-place-init
loop-place-init c = record { counted = lapses-none c.args.met.now; few = omega arith }

pub loop-place-preserved : goal.loop-place-preserved
loop-place-preserved c =
    let was = c.loop-place.invariant in
    let met = c.args.met.now in
    let items = c.self.inside.items in
    let place = c.loop-place.place in
    let one = c.lapse_of-lapses in
    let within : place < length items = omega (arith, c.loop-place-test.true, c.self.invariant.1, c.self.invariant.0) in
    record {
      counted = ap (λ n. n + one.result) was.counted
          ∙ ap (λ n. lapses_of met (take place items) + n) (rw c.is_marked.ensures at one.ensures.value)
          ∙ sym (lapses-next met items place _ within);
      few = omega (arith, was.few, one.ensures.most);
    }
