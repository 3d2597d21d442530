-- By whether it ended.
use Rattle.std.proofs.Common.{◌≡◌, ◌++◌, true, false, sym, ap, ◌∙◌, if◌then◌else◌}
use Rattle.std.specs.Prelude.{is_some}
use Rattle.sched_history.specs.Life.{asked_in, grants_since}
use Rattle.sched_history.specs.Time.{next_after}
use Rattle.sched_report.specs.Said.{claims_of, unserved_in}
use Rattle.sched_report.proofs.LifeTold.{some_end}
use Rattle.sched_report.proofs.life.LifeTally.dropped.Goals as goal

pub returns-in-Some : goal.returns-in-Some
returns-in-Some c = λ k life is.
    let ended : life.ended ≡ true =
    sym (some_end life.ended (next_after k (life.upto ++ life.since)) c.args.self.now.to is.to)
    ∙ ap is_some c.in-Some.is in
    c.unserved.ensures.unserved k (claims_of k life) (asked_in k life.sid life.since)
    (grants_since life.sid life.since) is.service
    ∙ sym (ap (λ b. if b then unserved_in k life else 0) ended)

pub returns-in-None : goal.returns-in-None
returns-in-None c = λ k life is.
    let alive : life.ended ≡ false =
    sym (some_end life.ended (next_after k (life.upto ++ life.since)) c.args.self.now.to is.to)
    ∙ ap is_some c.in-None.is in
    sym (ap (λ b. if b then unserved_in k life else 0) alive)
