-- The sums, and the two percentiles of the same delays.
use Rattle.std.proofs.Common.{arith}
use Rattle.sched_report.proofs.ranks.numbers_of.Goals as goal

pub percentile-requires-clause-lives : goal.percentile-requires-clause-lives
percentile-requires-clause-lives c =
    (c.requires.0, c.requires.1, c.requires.2, omega (arith, c.sums_of-sums.ensures.few))

pub percentile-requires-2-clause-lives : goal.percentile-requires-2-clause-lives
percentile-requires-2-clause-lives c =
    (c.requires.0, c.requires.1, c.requires.2, omega (arith, c.sums_of-sums.ensures.few))

pub percentile-requires-clause-served : goal.percentile-requires-clause-served
percentile-requires-clause-served c = λ k ls are. (c.sums_of-sums.ensures.sums k ls are).served

pub percentile-requires-clause-greatest : goal.percentile-requires-clause-greatest
percentile-requires-clause-greatest c = λ k ls are. (c.sums_of-sums.ensures.sums k ls are).greatest

pub percentile-requires-2-clause-served : goal.percentile-requires-2-clause-served
percentile-requires-2-clause-served c = λ k ls are. (c.sums_of-sums.ensures.sums k ls are).served

pub percentile-requires-2-clause-greatest : goal.percentile-requires-2-clause-greatest
percentile-requires-2-clause-greatest c = λ k ls are. (c.sums_of-sums.ensures.sums k ls are).greatest

pub returns : goal.returns
returns c = λ k ls are. record {
  sums = c.sums_of-sums.ensures.sums k ls are;
  middle = c.percentile.ensures k ls are;
  p99 = c.percentile-2.ensures k ls are;
}
