-- The lock gives the desk back, and its history is the closed one.
use Rattle.std.proofs.Common.{◌≡◌, ◌≤◌, length, sym, ap, ◌∙◌, subst}
use Rattle.std.specs.List.{AllByRecursion}
use Rattle.sched_history.specs.Facts.{FollowsAlways}
use Rattle.sched_history.specs.History.{IsLegal}
use Rattle.sched_history.specs.Machine.{Machine, kept_of}
use Rattle.sched_calls.specs.Reply.{IsEncodable}
use Rattle.sched_desk.specs.Desk.{IsHeadOf}
use Rattle.sched_desk.proofs.AtClose.{closes_to, config_is, head_is}
use Rattle.sched_desk.proofs.closing.close.Goals as goal

pub returns : goal.returns
returns g c =
    let lock = c.args.lock in
    let desk = c.requires.desk in
    let seats = c.args.seats.items in
    let x = c.close.result in
    let closes = c.close.ensures.closed in
    let told = c.into_recorder-recorder.ensures in
    let m = (g.S.Records.recording c.into_recorder-recorder.result.0.value).machine in
    let counts = c.into_recorder-recorder.result.1 in
    let here = c.scheduler.ensures ∙ ap (λ s. (g.S.Records.recording s).machine) c.deref.ensures in
    let seen = c.history-history.ensures in
    record {
      closed = closes_to c.args.checked lock desk seats x closes c.requires.own m told.machine
          (subst (λ (y : Machine). IsLegal y.config y.history) here seen.legal)
          (subst (λ (y : Machine). length (kept_of y) ≤ y.config.calls) here seen.within)
          (subst (λ (y : Machine). AllByRecursion (λ e. IsEncodable e.reply) y.history) here seen.encodable)
          (subst (λ (y : Machine). FollowsAlways y.config y.history) here seen.facts)
          counts told.counts told.whole.whole;
      config = ap (λ (y : Machine). y.config) told.machine ∙ config_is c.args.checked lock desk seats x closes;
      head = subst (λ p. IsHeadOf c.args.checked p lock) (sym told.press)
          (head_is c.args.checked lock desk seats x closes);
    }
