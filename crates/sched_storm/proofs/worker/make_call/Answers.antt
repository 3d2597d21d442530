-- The call was answered, and recorded exactly where it has a reply.
use Rattle.std.proofs.Common.{◌≤◌, sym, subst}
use Rattle.minislots.specs.declared.config.Config.{Config}
use Rattle.sched_storm.specs.Work.{MakesOne}
use Rattle.sched_storm.proofs.CallLaws.{one_call}
use Rattle.sched_storm.proofs.worker.make_call.Goals as goal

pub returns : goal.returns
returns g c =
    let made = c.call-seat in
    let config = c.args.shared.now.config in
    let few : config.calls ≤ 16777216 =
    subst (λ (x : Config). x.calls ≤ 16777216) c.config.ensures
    (subst (λ n. n ≤ 16777216) c.calls-most.ensures.value c.calls-most.ensures.most) in
    record {
      makes = subst (MakesOne config c.args.seat made.result.0 c.args.call) (sym c.is_ok.ensures.value)
          (one_call config few c.args.seat made.result.0 c.args.call made.result.1 made.ensures.answered);
    }
