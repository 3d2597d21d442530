-- How often a flow waited under its minimum reserved rate, or at a ceiling, where a MAP of its life starts.
use Rattle.std.specs.Prelude.{ℕ, ◌+◌, ◌==◌, List, [], ◌∷◌, ◌++◌, take, drop, filter, length}
use Rattle.minislots.specs.declared.config.Config.{Config}
use Rattle.flow_book.specs.declared.standing.Standing.{Standing}
use Rattle.flow_book.specs.declared.standing.Standing.TheVariants.{UnderReservation, AtCeiling}
use Rattle.sched_calls.specs.declared.reply.Entry.{Entry}
use Rattle.sched_history.specs.Facts.{waits_by}
use Rattle.sched_report.specs.Lives.{PastLife}

-- how often a SID is among some
abbrev pub times : ℕ → List ℕ → ℕ
times sid sids = length (filter (λ other. other == sid) sids)

-- how many MAPs that do not settle are among entries which follow these, at whose starts the flow of a SID waits for
-- bytes and stands so to its rates
abbrev pub waits_since : Standing → Config → ℕ → List Entry → List Entry → ℕ
waits_since standing c sid before [] = 0
waits_since standing c sid before (e ∷ es) =
    times sid (waits_by standing c before e.reply) + waits_since standing c sid (before ++ e ∷ []) es

-- how many of a life
abbrev pub waits_in : Standing → Config → PastLife → ℕ
waits_in standing c life =
    waits_since standing c life.sid (life.upto ++ take life.passed life.since) (drop life.passed life.since)

-- how many under its reservation
abbrev pub under_in : Config → PastLife → ℕ
under_in c life = waits_in UnderReservation c life

-- and how many at a ceiling
abbrev pub held_in : Config → PastLife → ℕ
held_in c life = waits_in AtCeiling c life
