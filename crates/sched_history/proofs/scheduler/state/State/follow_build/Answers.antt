-- The reply is the MAP that is handed in.
use Rattle.std.proofs.Common.{◌≡◌, true, IfOk, sym, subst}
use Rattle.sched_calls.specs.declared.call.Call.TheVariants.{Build}
use Rattle.sched_history.specs.State.{FollowsOpen}
use Rattle.sched_history.proofs.scheduler.state.State.follow_build.Goals as goal

pub returns-clause-follows : goal.returns-clause-follows
returns-clause-follows c =
    subst (λ r. IfOk c.follow_map.result
    (λ is. is ≡ true → FollowsOpen c.args.self.now c.follow_map.new.self (Build c.args.now) r))
    (sym c.in-Some.ensures.found) c.follow_map.ensures.follows
