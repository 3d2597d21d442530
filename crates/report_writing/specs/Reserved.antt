-- The lives of flows with a minimum reserved rate, and how often they waited under it.
use Rattle.std.specs.Prelude.{ℕ, nat_lt, Bool, if◌then◌else◌, List, Option, None, Some, filter}
use Rattle.sched_calls.specs.FlowSpec.{reserved_of}
use Rattle.sched_report.specs.declared.life.LifeNumbers.{LifeNumbers}

-- whether the flow of a life has a minimum reserved rate, by the parameters that it had last
abbrev pub has_reservation : LifeNumbers → Bool
has_reservation n = nat_lt 0 (reserved_of n.spec)

-- at how many starts of MAPs it waited under that rate, where it has one
abbrev pub under_of : LifeNumbers → Option ℕ
under_of n = if has_reservation n then Some n.under else None

-- of these lives those of flows that have one
abbrev pub with_reservation : List LifeNumbers → List LifeNumbers
with_reservation lives = filter has_reservation lives
