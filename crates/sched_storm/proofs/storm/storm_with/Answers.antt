-- The workers have a seat each of the lock that was opened, and there is a tally of what they gave back.
use Rattle.std.proofs.Common.{◌≡◌, ◌≤◌, vec_len, Result, Err, arith, rules}
use Rattle.sched_calls.specs.declared.call.TheConstants.{MAX_SCRIPTS}
use Rattle.sched_storm.specs.declared.tally.StormFault.{StormFault}
use Rattle.sched_storm.specs.declared.tally.StormFault.TheVariants.{Threads, Memory}
use Rattle.sched_storm.specs.declared.tally.Tally.{Tally}
use Rattle.sched_storm.proofs.StormLaws.{opened_own, opened_length, gathered_own, gathered_all}
use Rattle.sched_storm.proofs.StormLaws.{is_gated_tally, is_tally, legal_tally, told_thread}
use Rattle.sched_storm.proofs.storm.storm_with.Goals as goal

pub run_workers-gathered-requires-clause-ready : goal.run_workers-gathered-requires-clause-ready
run_workers-gathered-requires-clause-ready g c κs within =
    let new = c.in-Ok-open in
    let room = c.in-Ok.ensures in
    let workers = c.len-workers.ensures in
    let seats = opened_length c.args.checked c.len-workers.result new.shared.lock new.seats.items new.shared.press
    new.ensures.opened in
    let len = new.seats.ok.0 in
    let jobs = room.jobs.1 in
    let row = room.row.1 in
    let most = c.if-workers-gt-MAX_SCRIPTS.false in
    record {
      own = opened_own c.args.checked c.len-workers.result new.shared.lock new.seats.items new.shared.press
          new.ensures.opened;
      each = omega (arith, seats, len, workers);
      few = omega (arith, seats, len, most);
      jobs_empty = room.jobs.0;
      jobs_room = omega (arith, seats, len, jobs);
      row_empty = room.row.0;
      row_room = omega (arith, seats, len, row);
    }

pub close-requires-clause-own : goal.close-requires-clause-own
close-requires-clause-own g c =
    let new = c.in-Ok-open in
    gathered_own c.args.checked c.len-workers.result new.shared.lock new.seats.items new.shared.press
    new.ensures.opened
    (g.G.Gate.lets_pass c.args.gate.now) (g.G.Gate.holds_back c.args.gate.now) g.R.Starts.lacks_thread c.args.scripts
    c.len-workers.ensures
    c.run_workers-gathered.result c.run_workers-gathered.ensures.worked

pub close-requires-clause-all : goal.close-requires-clause-all
close-requires-clause-all g c =
    let new = c.in-Ok-open in
    gathered_all c.args.checked c.len-workers.result new.shared.lock new.seats.items new.shared.press
    new.ensures.opened
    (g.G.Gate.lets_pass c.args.gate.now) (g.G.Gate.holds_back c.args.gate.now) g.R.Starts.lacks_thread c.args.scripts
    c.len-workers.ensures
    c.run_workers-gathered.result c.run_workers-gathered.ensures.worked

pub returns-clause-tally : goal.returns-clause-tally
returns-clause-tally g c =
    let new = c.in-Ok-open in
    is_tally c.args.checked c.len-workers.result new.shared.lock new.seats.items new.shared.press
    new.ensures.opened
    (g.G.Gate.lets_pass c.args.gate.now) (g.G.Gate.holds_back c.args.gate.now) g.R.Starts.lacks_thread c.args.scripts
    c.len-workers.ensures
    c.run_workers-gathered.result c.run_workers-gathered.ensures.worked new.shared.config new.ensures.config
    c.close.result c.close.ensures.told c.close.ensures.ok

pub returns-clause-gated : goal.returns-clause-gated
returns-clause-gated g c =
    let new = c.in-Ok-open in
    is_gated_tally c.args.checked c.len-workers.result new.shared.lock new.seats.items new.shared.press
    new.ensures.opened
    (g.G.Gate.lets_pass c.args.gate.now) (g.G.Gate.holds_back c.args.gate.now) g.R.Starts.lacks_thread c.args.scripts
    c.len-workers.ensures
    c.run_workers-gathered.result c.run_workers-gathered.ensures.worked new.shared.config new.ensures.config
    c.close.result c.close.ensures.told c.close.ensures.ok

pub returns-clause-no_thread : goal.returns-clause-no_thread
returns-clause-no_thread g c =
    let new = c.in-Ok-open in
    told_thread c.args.checked c.len-workers.result new.shared.lock new.seats.items new.shared.press
    new.ensures.opened
    (g.G.Gate.lets_pass c.args.gate.now) (g.G.Gate.holds_back c.args.gate.now) g.R.Starts.lacks_thread c.args.scripts
    c.len-workers.ensures
    c.run_workers-gathered.result c.run_workers-gathered.ensures.worked c.close.result c.close.ensures.err

differ : ◌≡◌ {A = Result Tally StormFault} (Err Memory) (Err Threads) → ⊥
differ same = cc

pub returns-in_default-clause-no_thread : goal.returns-in_default-clause-no_thread
returns-in_default-clause-no_thread g c = λ is. absurd (differ is)

pub returns-in_default-open-clause-no_thread : goal.returns-in_default-open-clause-no_thread
returns-in_default-open-clause-no_thread g c = λ is. absurd (differ is)

pub returns-clause-legal : goal.returns-clause-legal
returns-clause-legal g c =
    legal_tally c.in-Ok-open.shared.config c.in-Ok-open.shared.lock c.run_workers-gathered.result c.close.result
    c.close.ensures.told

pub returns-in_default-clause-count : goal.returns-in_default-clause-count
returns-in_default-clause-count g c =
    let most : vec_len c.args.scripts ≤ MAX_SCRIPTS = omega arith in search rules

pub returns-in_default-open-clause-count : goal.returns-in_default-open-clause-count
returns-in_default-open-clause-count g c =
    let most : vec_len c.args.scripts ≤ MAX_SCRIPTS = omega arith in search rules

pub returns-clause-count : goal.returns-clause-count
returns-clause-count g c =
    let most : vec_len c.args.scripts ≤ MAX_SCRIPTS = omega arith in search rules
