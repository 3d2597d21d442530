-- They are those of what it asked and was granted since what is told began.
use Rattle.std.proofs.Common.{arith}
use Rattle.sched_history.specs.Life.{asked_in, grants_since}
use Rattle.sched_report.specs.Said.{claims_of}
use Rattle.sched_report.proofs.LifeTold.{few_told, granted-split}
use Rattle.sched_report.proofs.life.LifeTally.sums.Goals as goal

pub overflow_sub-result : goal.overflow_sub-result
overflow_sub-result c =
    let k = c.requires.0 in
    let life = c.requires.1 in
    let is = c.requires.2 in
    let sums = c.sums-sums.ensures k (claims_of k life) (asked_in k life.sid life.since)
    (grants_since life.sid life.since) is.service in
    omega (
      arith,
      sums.asked,
      is.service.asked,
      is.service.granted,
      is.service.within,
      is.before,
      granted-split life,
    )

pub overflow_sub-result-2 : goal.overflow_sub-result-2
overflow_sub-result-2 c =
    let k = c.requires.0 in
    let life = c.requires.1 in
    let is = c.requires.2 in
    let sums = c.sums-sums.ensures k (claims_of k life) (asked_in k life.sid life.since)
    (grants_since life.sid life.since) is.service in
    omega (arith, sums.granted, is.before, granted-split life)

pub returns-clause-sums : goal.returns-clause-sums
returns-clause-sums c = λ k life is.
    let sums = c.sums-sums.ensures k (claims_of k life) (asked_in k life.sid life.since)
    (grants_since life.sid life.since) is.service in
    record {
      asks = sums.asks;
      asked = omega (arith, sums.asked, is.before);
      granted = omega (arith, sums.granted, is.before, granted-split life);
      replaced = sums.replaced;
      delays = sums.delays;
    }

pub returns-clause-few : goal.returns-clause-few
returns-clause-few c =
    let k = c.requires.0 in
    let life = c.requires.1 in
    let is = c.requires.2 in
    let sums = c.sums-sums.ensures k (claims_of k life) (asked_in k life.sid life.since)
    (grants_since life.sid life.since) is.service in
    omega (arith, few_told k c.args.self.now life is, sums.delays.served, is.service.delays.served)

pub returns-clause-within : goal.returns-clause-within
returns-clause-within c =
    let k = c.requires.0 in
    let life = c.requires.1 in
    let is = c.requires.2 in
    let sums = c.sums-sums.ensures k (claims_of k life) (asked_in k life.sid life.since)
    (grants_since life.sid life.since) is.service in
    omega (arith, sums.asked, sums.granted, is.service.asked, is.service.granted, is.service.within)
