-- A build is followed by its MAP.
use Rattle.std.proofs.Common.{◌≡◌, true, IfOk, sym, subst}
use Rattle.sched_history.specs.State.{FollowsOpen}
use Rattle.sched_history.proofs.scheduler.state.State.follow.Goals as goal

pub returns-in-Build-clause-follows : goal.returns-in-Build-clause-follows
returns-in-Build-clause-follows c =
    subst (λ call. IfOk c.follow_build.result
    (λ is. is ≡ true → FollowsOpen c.args.self.now c.follow_build.new.self call c.args.reply.now))
    (sym c.in-Build.is) c.follow_build.ensures.follows
