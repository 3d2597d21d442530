-- The lives of flows with a ceiling, and how often they waited at it.
use Rattle.std.specs.Prelude.{ℕ, nat_lt, Bool, ◌||◌, if◌then◌else◌, Option, None, Some}
use Rattle.sched_calls.specs.FlowSpec.{rate_of, peak_of}
use Rattle.sched_report.specs.declared.life.LifeNumbers.{LifeNumbers}

-- whether the flow of a life has a maximum sustained rate or a peak rate, by the parameters that it had last
abbrev pub has_ceiling : LifeNumbers → Bool
has_ceiling n = nat_lt 0 (rate_of n.spec) || nat_lt 0 (peak_of n.spec)

-- at how many starts of MAPs it waited while one of them had no room, where it has one
abbrev pub held_of : LifeNumbers → Option ℕ
held_of n = if has_ceiling n then Some n.held else None
