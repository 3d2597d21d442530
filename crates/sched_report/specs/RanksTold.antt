-- The numbers of the ranks in what is told of a history, in the order in which they are served.
use Rattle.std.specs.Prelude.{◌≡◌, ℕ, nat_lt, Bool, List, [], ◌∷◌, filter, map}
use Rattle.std.specs.List.{AllByRecursion}
use Rattle.sched_report.specs.declared.ranks_told.RankTold.{RankTold}
use Rattle.sched_report.specs.Window.{Window, lives_told}
use Rattle.sched_report.specs.Ranks.{lives_of_rank, asks_among, AreRankNumbers}

-- the ranks in the order in which they are served: polled flows, and then the priorities of best effort ones
abbrev pub ranks_served : List ℕ
ranks_served = 8 ∷ 7 ∷ 6 ∷ 5 ∷ 4 ∷ 3 ∷ 2 ∷ 1 ∷ 0 ∷ []

-- whether a flow of this rank has asked
abbrev pub has_asked : Window → ℕ → Bool
has_asked w rank = nat_lt 0 (asks_among w.config (lives_of_rank rank (lives_told w)))

-- the numbers of a rank are those of its lives
abbrev pub IsRankTold : Window → RankTold → Type 0
IsRankTold w told = AreRankNumbers w.config told.numbers (lives_of_rank told.rank (lives_told w))

-- The ranks are those that asked, in the order in which they are served, each with its numbers
pub record AreRanksTold (w : Window) (told : List RankTold) : Type 0 where
  pub those : map (λ t. t.rank) told ≡ filter (has_asked w) ranks_served
  pub each : AllByRecursion (IsRankTold w) told
