-- What the entries of a history meet of the opportunities that wait: by the plan, as far as the history is legal.
use Rattle.std.specs.Prelude.{◌≡◌, ℕ, ◌⊎◌, ◌<◌, nat_lt, List, [], ◌∷◌, ◌++◌, length, take, map, get_or, if◌then◌else◌}
use Rattle.std.specs.Global.{Vec}
use Rattle.minislots.specs.declared.config.Config.{Config}
use Rattle.map_build.specs.declared.met.Met.{Met}
use Rattle.sched_calls.specs.declared.reply.Entry.{Entry}
use Rattle.sched_calls.specs.declared.reply.Reply.{Reply}
use Rattle.sched_history.specs.History.{IsLegal}
use Rattle.sched_history.specs.Audit.{IsFirstIllegal}
use Rattle.sched_history.specs.Reserves.{met_after}

-- so many entries at the front of a history are legal: all of them, or those before the first that may not follow
abbrev pub IsLegalFront : Config → List Entry → ℕ → Type 0
IsLegalFront c h n = (IsLegal c h × (n ≡ length h)) ⊎ IsFirstIllegal c h n

-- what the MAP of a reply that follows entries meets, where so many entries of the history are legal: behind them there
-- is no plan, and nothing is met
unfoldable pub met_within : Config → ℕ → List Entry → Reply → List Met
met_within c legal before reply = if nat_lt (length before) legal then met_after c before reply else []

-- what the MAP of each of the entries behind others meets
abbrev pub met_by_each : Config → List Entry → List Entry → List (List Met)
met_by_each c before [] = []
met_by_each c before (e ∷ es) = met_after c before e.reply ∷ met_by_each c (before ++ e ∷ []) es

-- lists, as they were found one by one
abbrev pub met_lists : List (Vec Met) → List (List Met)
met_lists found = map (λ v. v.items) found

-- The lists are what the entries of a history meet, as far as it is legal: one for each legal entry
pub record IsMetByFront (c : Config) (h : List Entry) (found : List (List Met)) : Type 0 where
  pub front : IsLegalFront c h (length found)
  pub each : found ≡ met_by_each c [] (take (length found) h)

-- the lists tell of each entry behind others what it meets, where a missing one is empty
abbrev pub TellsMet : (List Entry → Reply → List Met) → List Entry → List Entry → List (List Met) → Type 0
TellsMet met before es found = (i : ℕ) (d : Entry) → i < length es
    → get_or found i [] ≡ met (before ++ take i es) (get_or es i d).reply
