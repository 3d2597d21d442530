-- One worker more was started.
use Rattle.std.proofs.Common.{◌≡◌, length, ap, arith}
use Rattle.sched_storm.specs.Jobs.{IsJob}
use Rattle.sched_storm.proofs.JobLaws.{Starting-none, Starting-own, Starting-push, Starting-all}
use Rattle.sched_storm.proofs.jobs.start_all.Goals as goal

pub start-requires-clause-own : goal.start-requires-clause-own
start-requires-clause-own g c κs within =
    let last = c.loop-seat in
    Starting-own (IsJob g.G.Gate.lets_pass g.G.Gate.holds_back g.R.Starts.lacks_thread c.args.checked
    c.args.gate.now) c.args.shared.now.lock
    c.args.seats.items c.args.scripts.items last.seats.items c.pop.new.self.items last.scripts.items
    c.pop-in-Some.new.self.items last.jobs.items c.in-Some.seat c.in-Some-pop.script c.in-Some.ensures.items
    last.invariant.so_far

pub loop-seat-init : goal.loop-seat-init
loop-seat-init g c =
    let none : length c.args.jobs.items ≡ 0 = ap length c.requires.empty in
    let len = c.args.jobs.ok.0 in
    let room = c.requires.room in
    record {
      so_far = Starting-none (IsJob g.G.Gate.lets_pass g.G.Gate.holds_back g.R.Starts.lacks_thread c.args.checked
          c.args.gate.now)
          c.args.shared.now.lock c.args.seats.items c.args.scripts.items c.requires.own c.args.jobs.items
          c.requires.empty;
      each = c.requires.each;
      room = omega (arith, none, len, room);
      count = omega (arith, none, len);
    }

pub loop-seat-preserved : goal.loop-seat-preserved
loop-seat-preserved g c =
    let fits = IsJob g.G.Gate.lets_pass g.G.Gate.holds_back g.R.Starts.lacks_thread c.args.checked c.args.gate.now in
    let lock = c.args.shared.now.lock in
    let pushed = c.push_reserved.ensures in
    let seat = c.in-Some.ensures in
    let script = c.in-Some-pop.ensures in
    let last = c.loop-seat in
    let all = c.args.seats.items in
    let all_scripts = c.args.scripts.items in
    let rest = c.pop.new.self.items in
    let rest_scripts = c.pop-in-Some.new.self.items in
    let fewer = seat.len in
    let fewer_scripts = script.len in
    let more = pushed.len in
    let same = pushed.capacity in
    let each = last.invariant.each in
    let room = last.invariant.room in
    let count = last.invariant.count in
    record {
      so_far = Starting-push fits lock all all_scripts last.seats.items rest last.scripts.items rest_scripts
          last.jobs.items c.in-Some.seat c.in-Some-pop.script seat.items last.invariant.so_far c.start.result
          c.push_reserved.new.self.items script.items c.start.ensures.job pushed.items;
      each = omega (arith, fewer, fewer_scripts, each);
      room = omega (arith, fewer, more, same, room);
      count = omega (arith, fewer, more, count);
    }

pub returns : goal.returns
returns g c =
    let seats = c.loop-seat.seats.ok.0 in
    let scripts = c.loop-seat.scripts.ok.0 in
    let each = c.loop-seat.invariant.each in
    let none = c.in_default.ensures.cases.0 in
    record {
      started = Starting-all (IsJob g.G.Gate.lets_pass g.G.Gate.holds_back g.R.Starts.lacks_thread c.args.checked
          c.args.gate.now)
          c.args.shared.now.lock c.args.seats.items c.args.scripts.items c.loop-seat.seats.items
          c.loop-seat.scripts.items c.loop-seat.jobs.items (omega (arith, seats, none))
          (omega (arith, scripts, each, none)) c.loop-seat.invariant.so_far;
      room = let count = c.loop-seat.invariant.count in omega (arith, count);
    }
