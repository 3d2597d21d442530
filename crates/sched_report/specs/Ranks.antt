-- The lives of flows by the rank in which they are served.
use Rattle.std.specs.Prelude.{◌≡◌, ℕ, ◌-◌, ◌*◌, ◌≤◌, ◌==◌, ◌&&◌, Bool, true, List, filter, flat_map, length, sum_by}
use Rattle.std.specs.Prelude.{Option, None, Some, min, max, ◌^◌}
use Rattle.minislots.specs.declared.config.Config.{Config}
use Rattle.sched_calls.specs.declared.spec.FlowSpec.{FlowSpec}
use Rattle.sched_calls.specs.FlowSpec.{takes_requests, rank_of}
use Rattle.sched_report.specs.declared.ranks.RankSums.{RankSums}
use Rattle.sched_report.specs.declared.ranks.RankNumbers.{RankNumbers}
use Rattle.sched_report.specs.Delays.{least_of, greatest_of}
use Rattle.sched_report.specs.Spread.{TellsPercentile}
use Rattle.sched_report.specs.Lives.{PastLife, spec_of}
use Rattle.sched_report.specs.Said.{claims_of, delays_in, granted_in, waiting_in, dropped_in, replaced_in}

-- whether flows with these parameters are served in this rank: polled ones in 8, best effort ones in their priority
abbrev pub is_of_rank : ℕ → FlowSpec → Bool
is_of_rank rank spec = takes_requests spec && rank_of spec == rank

-- the lives that end with such parameters, or have them
abbrev pub lives_of_rank : ℕ → List PastLife → List PastLife
lives_of_rank rank lives = filter (λ life. is_of_rank rank (spec_of life)) lives

-- how many requests some lives have
abbrev pub asks_among : Config → List PastLife → ℕ
asks_among c lives = sum_by (λ life. length (claims_of c life)) lives

-- the bytes that they were granted
abbrev pub granted_among : Config → List PastLife → ℕ
granted_among c lives = sum_by (granted_in c) lives

-- how many of their requests wait
abbrev pub waiting_among : Config → List PastLife → ℕ
waiting_among c lives = sum_by (waiting_in c) lives

-- how many of their requests were dropped
abbrev pub dropped_among : Config → List PastLife → ℕ
dropped_among c lives = sum_by (dropped_in c) lives

-- how many of their requests were replaced
abbrev pub replaced_among : Config → List PastLife → ℕ
replaced_among c lives = sum_by (replaced_in c) lives

-- the delays of those that were served
abbrev pub delays_in_all : Config → List PastLife → List ℕ
delays_in_all c lives = flat_map (delays_in c) lives

-- whether a life is one of a rank, or whether it is one at all where no rank is named
abbrev pub is_chosen : Option ℕ → FlowSpec → Bool
is_chosen None spec = true
is_chosen (Some rank) spec = is_of_rank rank spec

-- the lives that are
abbrev pub chosen : Option ℕ → List PastLife → List PastLife
chosen rank lives = filter (λ life. is_chosen rank (spec_of life)) lives

-- the least of two numbers, where there are two
abbrev pub both_least : Option ℕ → Option ℕ → Option ℕ
both_least (Some m) (Some n) = Some (min m n)
both_least (Some m) None = Some m
both_least None n = n

-- the greatest of two numbers, where there are two
abbrev pub both_greatest : Option ℕ → Option ℕ → Option ℕ
both_greatest (Some m) (Some n) = Some (max m n)
both_greatest (Some m) None = Some m
both_greatest None n = n

-- These are the sums over some lives, and the least and the greatest of their delays
pub record AreRankSums (c : Config) (s : RankSums) (lives : List PastLife) : Type 0 where
  pub asks : s.asks ≡ asks_among c lives
  pub granted : s.granted ≡ granted_among c lives
  pub waiting : s.waiting ≡ waiting_among c lives
  pub dropped : s.dropped ≡ dropped_among c lives
  pub replaced : s.replaced ≡ replaced_among c lives
  pub served : s.served ≡ length (delays_in_all c lives)
  pub least : s.least ≡ least_of (delays_in_all c lives)
  pub greatest : s.greatest ≡ greatest_of (delays_in_all c lives)

-- These are the numbers of some lives: the sums, and the delays that 50 and 99 in a hundred do not exceed
pub record AreRankNumbers (c : Config) (n : RankNumbers) (lives : List PastLife) : Type 0 where
  pub sums : AreRankSums c n.sums lives
  pub middle : TellsPercentile 50 (delays_in_all c lives) n.middle
  pub p99 : TellsPercentile 99 (delays_in_all c lives) n.p99

-- the sums are of no more than so many lives
pub record AreFew (s : RankSums) (n : ℕ) : Type 0 where
  pub asks : s.asks ≤ (2 ^ 64 - 1) * n
  pub granted : s.granted ≤ (2 ^ 64 - 1) * n
  pub waiting : s.waiting ≤ (2 ^ 64 - 1) * n
  pub dropped : s.dropped ≤ (2 ^ 64 - 1) * n
  pub replaced : s.replaced ≤ (2 ^ 64 - 1) * n
  pub served : s.served ≤ 2 ^ 44 * n
