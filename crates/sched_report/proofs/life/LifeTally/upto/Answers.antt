-- They are those of its requests that were served.
use Rattle.sched_history.specs.Life.{asked_in, grants_since}
use Rattle.sched_report.specs.Said.{claims_of}
use Rattle.sched_report.proofs.LifeTold.{few_asked}
use Rattle.sched_report.proofs.life.LifeTally.upto.Goals as goal

pub upto-requires : goal.upto-requires
upto-requires c =
    let k = c.requires.0 in
    let life = c.requires.1 in
    let is = c.requires.2 in (
      k,
      claims_of k life,
      asked_in k life.sid life.since,
      grants_since life.sid life.since,
      is.service,
      few_asked k c.args.self.now life is,
    )

pub returns-clause-counts : goal.returns-clause-counts
returns-clause-counts c = λ k life is.
    c.upto.ensures.counts k (claims_of k life) (asked_in k life.sid life.since) (grants_since life.sid life.since)
    is.service
