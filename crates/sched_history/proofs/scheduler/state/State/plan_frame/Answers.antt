-- The MAP of the next frame, from what is kept.
use Rattle.std.proofs.Common.{◌∙◌, sym, subst}
use Rattle.map_build.specs.Opportunities.{HaveElementSids, MayWait}
use Rattle.sched_history.specs.Reserves.{waiting_in}
use Rattle.sched_history.proofs.reserves.GoodReserves.{MayWait-good, HaveElementSids-good}
use Rattle.sched_history.proofs.state.Building.{IsNextMap-after, IsLawfulMap-after, flows-planned, reserves-planned}
use Rattle.sched_history.proofs.scheduler.state.State.plan_frame.Goals as goal

pub plan_next-requires-clause-periodic : goal.plan_next-requires-clause-periodic
plan_next-requires-clause-periodic c =
    let opens = c.requires.2 in rw (opens.is_after.flows, opens.is_after.placed) opens.sound.periodic

pub plan_next-requires-clause-channel : goal.plan_next-requires-clause-channel
plan_next-requires-clause-channel c = let opens = c.requires.2 in rw opens.is_after.flows opens.sound.channel

pub plan_next-requires-clause-waiting : goal.plan_next-requires-clause-waiting
plan_next-requires-clause-waiting c =
    let opens = c.requires.2 in
    subst (λ rs. MayWait (waiting_in rs)) (sym opens.is_after.reserves)
    (MayWait-good c.args.self.now.config c.requires.1.reserves opens.sound.waiting)

pub plan_next-requires-clause-stations : goal.plan_next-requires-clause-stations
plan_next-requires-clause-stations c =
    let opens = c.requires.2 in
    subst (λ rs. HaveElementSids (waiting_in rs)) (sym opens.is_after.reserves)
    (HaveElementSids-good c.args.self.now.config c.requires.1.reserves opens.sound.waiting)

pub returns-clause-fits : goal.returns-clause-fits
returns-clause-fits c = λ now x opens.
    let s = c.args.self.now in
    let p = c.in_ok-frame.frame in
    let frame = c.in_ok-frame.ensures.lawful in
    record {
      lawful = IsNextMap-after s x opens.is_after p.map (frame.plan, frame.is_plan, frame.map);
      encodable = c.in_ok-frame.ensures.encodable;
      config = c.in_ok-frame.ensures.config;
      before = frame.before ∙ opens.is_after.flows;
      flows = flows-planned s x opens.is_after p frame now;
      reserves = reserves-planned s x opens.is_after p frame opens.sound;
    }

pub returns-clause-only : goal.returns-clause-only
returns-clause-only c = λ now x opens n next.
    c.in_ok-frame.ensures.only n (IsLawfulMap-after c.args.self.now x opens.is_after n next)
