-- The scale of delays, and where a delay stands on it.
use Rattle.std.specs.Prelude.{ℕ, ◌+◌, ◌*◌, ◌/◌, ◌^◌, ◌<◌, ◌≤◌, ◌==◌, nat_lt, if◌then◌else◌, max, min, List, [], ◌∷◌}
use Rattle.std.specs.Prelude.{Option, None, Some}
use Rattle.sched_report.specs.declared.ranks_told.RankTold.{RankTold}
use Rattle.report_picture.specs.declared.scale.Scale.{Scale}
use Rattle.report_picture.specs.Axis.{place}
use Rattle.report_picture.specs.Levels.{level_place}
use Rattle.report_picture.specs.Course.{or_zero}

-- the greatest delay of some ranks
abbrev pub most_of : List RankTold → ℕ
most_of [] = 0
most_of (r ∷ rs) = max (or_zero r.numbers.sums.greatest) (most_of rs)

-- the lesser of two numbers, where 0 is none
abbrev pub lesser : ℕ → ℕ → ℕ
lesser m n = if m == 0 then n else if n == 0 then m else min m n

-- the least delay above 0 of those that are shown of a rank, or 0
abbrev pub least_shown : RankTold → ℕ
least_shown r =
    lesser (lesser (or_zero r.numbers.sums.least) (or_zero r.numbers.middle))
    (lesser (or_zero r.numbers.p99) (or_zero r.numbers.sums.greatest))

-- the least delay above 0 of those that are shown of some ranks, or 0
abbrev pub least_of : List RankTold → ℕ
least_of [] = 0
least_of (r ∷ rs) = lesser (least_shown r) (least_of rs)

-- the delay at which a logarithmic axis begins: the least one above 0, where the greatest is more than a hundred times
-- as long. Other axes are linear
abbrev pub start_of : ℕ → ℕ → Option ℕ
start_of least most =
    if nat_lt 0 least then if nat_lt (100 * least) most then Some least else None
    else None

-- the scale of the delays of some ranks, where minislots have so many ticks: it ends at the tenth of a millisecond, 16
-- ticks, that the greatest one reaches
abbrev pub scale_of : ℕ → List RankTold → Scale
scale_of ticks ranks = record {
  ticks = ticks;
  tenths = (most_of ranks * ticks + 15) / 16;
  start = start_of (least_of ranks) (most_of ranks);
}

-- so many minislots in quarters of a microsecond, of which a tick has 25
abbrev pub quarters : ℕ → ℕ → ℕ
quarters ticks slots = slots * ticks * 25

-- the end of a scale in them
abbrev pub scale_end : Scale → ℕ
scale_end s = 400 * s.tenths

-- where a delay stands, in tenths of a unit, where 640 units are the whole scale: in proportion, or by its level where
-- the axis begins at a delay and is logarithmic
abbrev pub place_from : Option ℕ → Scale → ℕ → ℕ
place_from None s delay = place 6400 (delay * s.ticks) (16 * s.tenths)
place_from (Some start) s delay =
    level_place 6400 (quarters s.ticks delay) (quarters s.ticks start) (scale_end s)

-- the same, by the scale alone
abbrev pub delay_place : Scale → ℕ → ℕ
delay_place s delay = place_from s.start s delay

-- No longer delay stands further left
abbrev pub DelaysStand : Type 0
DelaysStand =
    (s : Scale) (m n : ℕ) → m ≤ n → n < 2 ^ 64 → s.ticks < 2 ^ 32 → delay_place s m ≤ delay_place s n
