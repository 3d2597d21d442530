-- The calls so far, and one more.
use Rattle.std.proofs.Common.{◌≡◌, ◌<◌, ◌≤◌, ◌+◌, length, subst, arith}
use Rattle.sched_storm.specs.declared.worker.Ended.TheVariants.{Done}
use Rattle.sched_storm.specs.Work.{Hinders}
use Rattle.sched_storm.proofs.Working.{IsCountedTo, none_so_far, few_so_far, HasMadeSoFar-push, has_worked, hindered}
use Rattle.sched_storm.proofs.Working.{counted-more, counted-same}
use Rattle.sched_storm.proofs.worker.work.Goals as goal
use Rattle.sched_storm.proofs.worker.work.Goals.{then-not-is_recorded, else-not-is_recorded}

pub loop-made-init : goal.loop-made-init
loop-made-init g c = record {
  within = omega arith;
  few = omega arith;
  so_far = none_so_far (g.G.Gate.lets_pass c.args.gate.now) c.args.shared.now.config c.args.seat c.args.script.now;
}

pub loop-made-preserved : goal.loop-made-preserved
loop-made-preserved g c =
    let so = c.loop-made in
    let one = c.make_call-next in
    let script = c.args.script.now in
    let below : so.made < length script =
    (let test = c.loop-made-test.true in let long = c.count_calls-calls.ensures.value in omega (arith, test, long)) in
    let passes = g.G.Gate.lets_pass c.args.gate.now in
    let more = c.if-not-is_recorded.unrecorded in
    let within : so.made + 1 ≤ length script = omega (arith, below) in
    let counted : IsCountedTo so.unrecorded one.result.1 more =
    elim c.if-not-is_recorded.branch [
      | then-not-is_recorded w ↦ counted-more so.unrecorded _ _ w.if-not-is_recorded.true w.unrecorded-is
      | else-not-is_recorded w ↦ counted-same so.unrecorded _ _ w.if-not-is_recorded.false w.unrecorded-is
    ] in
    let so_far =
    HasMadeSoFar-push passes c.args.shared.now.config c.args.seat script so.made so.seat so.unrecorded
    so.invariant.so_far _ one.result.0 one.result.1 more below one.ensures.makes counted
    (subst (λ n. passes n so.made) c.number-worker.ensures.number c.in_default.ensures) in
    record {
      within = within;
      few = few_so_far passes c.args.shared.now.config c.args.seat script (so.made + 1) one.result.0 more so_far within;
      so_far = so_far;
    }

pub returns-in-Some : goal.returns-in-Some
returns-in-Some g c =
    let so = c.loop-made in
    let gate = c.args.gate.now in
    let holds = g.G.Gate.holds_back gate in
    let lacks = g.R.Starts.lacks_thread in
    let script = c.args.script.now in
    let below : so.made < length script =
    (let test = c.loop-made-test.true in let long = c.count_calls-calls.ensures.value in omega (arith, test, long)) in
    let why = subst (λ n. Hinders lacks (holds n so.made) c.in-Some.ended) c.number-worker.ensures.number
    c.in-Some.ensures in
    let given = c.gives_back.ensures in
    record {
      worked = rw (given.seat, given.unrecorded, given.ended)
          (has_worked (g.G.Gate.lets_pass gate) c.args.shared.now.config c.args.seat script so.made so.seat
          so.unrecorded so.invariant.so_far holds lacks c.in-Some.ended so.invariant.within
          (hindered lacks (holds c.args.seat.number so.made) so.made (length script) c.in-Some.ended below why));
    }

pub returns : goal.returns
returns g c =
    let so = c.loop-made in
    let gate = c.args.gate.now in
    let script = c.args.script.now in
    let all : so.made ≡ length script =
    (let test = c.loop-made-test.false in let long = c.count_calls-calls.ensures.value in
    let within = so.invariant.within in omega (arith, test, long, within)) in
    let given = c.gives_back-2.ensures in
    record {
      worked = rw (given.seat, given.unrecorded, given.ended)
          (has_worked (g.G.Gate.lets_pass gate) c.args.shared.now.config c.args.seat script so.made so.seat
          so.unrecorded so.invariant.so_far (g.G.Gate.holds_back gate) g.R.Starts.lacks_thread Done
          so.invariant.within all);
    }
