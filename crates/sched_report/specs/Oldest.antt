-- How long the first request of a life that waits has waited.
use Rattle.std.specs.Prelude.{ℕ, ◌-◌, ◌&&◌, not, Bool, List, ◌++◌, map, filter, Option, None, is_none, option_map}
use Rattle.std.specs.Prelude.{if◌then◌else◌}
use Rattle.minislots.specs.declared.config.Config.{Config}
use Rattle.sched_history.specs.Time.{next_after}
use Rattle.sched_report.specs.Delays.{Claim, delay_of, least_of}
use Rattle.sched_report.specs.Lives.{PastLife}
use Rattle.sched_report.specs.Said.{claims_of}

-- whether a request neither was superseded nor did a data grant serve it
abbrev pub is_unserved : Config → Claim → Bool
is_unserved c m = not m.superseded && is_none (delay_of c m)

-- the minislot at which the first of those was heard, where there is one
abbrev pub first_heard : Config → List Claim → Option ℕ
first_heard c claims = least_of (map (λ m. m.heard) (filter (is_unserved c) claims))

-- the minislots from there to the start of the next frame, where one waits: where the life ended, none does
abbrev pub oldest_in : Config → PastLife → Option ℕ
oldest_in c life =
    if life.ended then None
    else option_map (λ first. next_after c (life.upto ++ life.since) - first) (first_heard c (claims_of c life))
