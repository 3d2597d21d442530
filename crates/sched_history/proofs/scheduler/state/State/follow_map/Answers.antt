-- The MAP is the one that is planned.
use Rattle.std.proofs.Common.{◌≡◌, ap, ◌∙◌, sym, refl, subst}
use Rattle.std.proofs.lemmas.Option.{same_Some}
use Rattle.sched_calls.specs.declared.call.Call.TheVariants.{Build}
use Rattle.sched_calls.specs.declared.reply.Reply.TheVariants.{Built}
use Rattle.sched_history.specs.History.{map_by}
use Rattle.sched_calls.specs.Reply.{IsEncodable}
use Rattle.sched_history.specs.Situation.{after}
use Rattle.sched_history.specs.State.{IsStateAfter}
use Rattle.sched_history.proofs.scheduler.state.State.follow_map.Goals as goal

pub plan_frame-requires : goal.plan_frame-requires
plan_frame-requires c = (c.args._now, c.requires.open.0, c.requires.open.1)

pub commit-requires : goal.commit-requires
commit-requires c =
    let now = c.args._now in
    let x = c.requires.open.0 in
    let opens = c.requires.open.1 in
    rw c.plan_frame.ensures.same (now, x, opens, c.in_ok-frame.ensures.fits now x opens)

pub returns-then-not-is_same_map-clause-differs : goal.returns-then-not-is_same_map-clause-differs
returns-then-not-is_same_map-clause-differs c = λ is x opens answers.
    let frame = c.in_ok-frame in
    let map : c.args.map.now ≡ answers.0 = same_Some c.args.map.now answers.0 (ap map_by answers.2) in
    let only : answers.0 ≡ frame.frame.map = frame.ensures.only c.args._now x opens answers.0 answers.1 in
    c.if-not-is_same_map.ensures.apart refl (map ∙ only)

pub returns-clause-follows : goal.returns-clause-follows
returns-clause-follows c = λ is x opens.
    let now = c.args._now in
    let map = c.in_ok-frame.frame.map in
    let fits = c.in_ok-frame.ensures.fits now x opens in
    let same : c.args.map.now ≡ map = c.if-not-is_same_map.ensures.same refl in
    let reply : c.commit.result ≡ Built c.args.map.now = c.commit.ensures.built ∙ ap (λ m. Built m) (sym same) in
    let answered = (rw c.plan_frame.ensures.same at c.commit.ensures.answered) now x opens fits in
    record {
      config = answered.config;
      answers = (map, fits.lawful, ap (λ m. Built m) same);
      encodable = subst (λ r. IsEncodable r) reply answered.encodable;
      is_after = subst (λ r. IsStateAfter c.commit.new.self (after c.args.self.now.config x (Build now) r)) reply
          answered.is_after;
    }
