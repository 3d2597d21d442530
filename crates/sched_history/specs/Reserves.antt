-- The opportunities that were reserved in a history and wait for a MAP.
use Rattle.std.specs.Prelude.{ℕ, suc, ◌+◌, ◌-◌, ◌/◌, ◌^◌, ◌<◌, ◌≤◌, Bool, false, not, nat_lt, List, [], ◌∷◌, ◌++◌, map, filter}
use Rattle.std.specs.Prelude.{take, Option, None, Some, if◌then◌else◌, nat_le, count_by}
use Rattle.minislots.specs.declared.config.Config.{Config}
use Rattle.map_codec.specs.declared.element.Element.{Element}
use Rattle.periodic.specs.declared.placement.Spot.{Spot}
use Rattle.periodic.specs.Placement.{due_in}
use Rattle.map_build.specs.declared.TheConstants.{MAX_WAITING}
use Rattle.sched_calls.specs.declared.opportunity.Opportunity.{Opportunity}
use Rattle.map_build.specs.declared.met.Met.{Met}
use Rattle.map_build.specs.Purpose.{sid_for}
use Rattle.map_build.specs.Reading.{meets_place, met_in}
use Rattle.sched_calls.specs.declared.call.Call.{Call}
use Rattle.sched_calls.specs.declared.call.Call.TheVariants as calls
use Rattle.sched_calls.specs.declared.reply.Reply.{Reply}
use Rattle.sched_calls.specs.declared.reply.Reply.TheVariants as replies
use Rattle.sched_calls.specs.declared.reply.Entry.{Entry}
use Rattle.sched_history.specs.declared.scheduler.reserves.Reserve.{Reserve}
use Rattle.sched_history.specs.Life.{table_of}
use Rattle.sched_history.specs.Time.{next_after}
pub use Rattle.sched_history.specs.Headers.{header_by, header_after}
use Rattle.sched_history.specs.Settling.{settles_after}

-- the MAPs that do not settle after which a Reserve that none of them met has lapsed
abbrev pub last_map : ℕ
last_map = 64

-- a Reserve as it is asked for
abbrev pub new_reserve : Opportunity → Reserve
new_reserve o = record { opportunity = o; maps = 0 }

-- the opportunity that an accepted Reserve asks for
abbrev pub reserve_by : Call → Reply → Option Opportunity
reserve_by (calls.Reserve usage slots) replies.Reserved = Some (record { usage = usage; slots = slots })
reserve_by call reply = None

-- a Reserve that one MAP more, which does not settle, has not met
abbrev pub older : Reserve → Reserve
older r = record r { maps = r.maps + 1 }

-- Reserves that one such MAP more has not met, without those that have lapsed
abbrev pub aged : List Reserve → List Reserve
aged rs = filter (λ r. nat_lt r.maps last_map) (map older rs)

-- A Reserve that may wait: it was accepted, and has not lapsed
pub record IsReserve (c : Config) (r : Reserve) : Type 0 where
  pub some_slots : 0 < r.opportunity.slots
  pub within : r.opportunity.slots ≤ c.frame - c.req_slots
  pub sid : sid_for r.opportunity.usage < 2 ^ 14
  pub young : r.maps < last_map

-- the Reserves with one that a call asks for
abbrev pub reserves_with : Option Opportunity → List Reserve → List Reserve
reserves_with None rs = rs
reserves_with (Some o) rs = rs ++ new_reserve o ∷ []

-- the opportunities that Reserves ask for
abbrev pub asked_for : List Reserve → List Opportunity
asked_for rs = map (λ r. r.opportunity) rs

-- those of the first Reserves, which wait for the next MAP
abbrev pub waiting_in : List Reserve → List Opportunity
waiting_in rs = asked_for (take MAX_WAITING rs)

-- what is left of a Reserve that was met, or was not
abbrev pub left_of : Bool → Reserve → List Reserve
left_of is_met r = if is_met then [] else r ∷ []

-- the Reserves at whose places no mark stands
abbrev pub unmarked : List Bool → List Reserve → List Reserve
unmarked [] rs = rs
unmarked (b ∷ bs) [] = []
unmarked (b ∷ bs) (r ∷ rs) = if b then unmarked bs rs else r ∷ unmarked bs rs

-- a Reserve that lapses with one MAP more, which does not settle, where it does not meet it
abbrev pub is_last : Reserve → Bool
is_last r = nat_le last_map (r.maps + 1)

-- how many Reserves lapse with a MAP that does not settle, by its marks at those that it meets
abbrev pub lapses_of : List Bool → List Reserve → ℕ
lapses_of met rs = count_by is_last (unmarked met rs)

-- how many lapse with a MAP, by its marks at those that it meets: none where it settles
abbrev pub lapses_with : Bool → List Bool → List Reserve → ℕ
lapses_with settles met rs = if settles then 0 else lapses_of met rs

-- the Reserves but those at places at which the test holds
abbrev pub left_by : (ℕ → Bool) → List Reserve → List Reserve
left_by test [] = []
left_by test (r ∷ rs) = if test 0 then left_by (λ k. test (suc k)) rs else r ∷ left_by (λ k. test (suc k)) rs

-- the polls and unsolicited grants of the next frame
abbrev pub spots_after : Config → List Entry → List Spot
spots_after c h = due_in c (next_after c h / c.frame) (table_of h)

-- what a MAP with these elements, beside these polls and unsolicited grants, meets of these Reserves: nothing where it
-- settles
abbrev pub met_beside : Config → Bool → List Spot → List Reserve → List Element → List Met
met_beside c settles spots rs elements = if settles then [] else met_in c spots (waiting_in rs) elements

-- what the MAP of the next frame, with these elements, meets of these Reserves
abbrev pub met_by : Config → List Entry → List Reserve → List Element → List Met
met_by c h rs elements = met_beside c (settles_after c h) (spots_after c h) rs elements

-- the Reserves after a MAP, by its marks at those that it meets: the others are older, and where it settles all are as
-- they were
abbrev pub left_behind : Bool → List Bool → List Reserve → List Reserve
left_behind settles met rs = if settles then rs else aged (unmarked met rs)

-- the Reserves after a MAP with these elements, beside these polls and unsolicited grants: those that it meets are
-- gone, and the others older. Where it settles all are as they were
abbrev pub reserves_past : Config → Bool → List Spot → List Element → List Reserve → List Reserve
reserves_past c settles spots elements rs =
    if settles then rs else aged (left_by (meets_place (met_beside c settles spots rs elements)) rs)

-- the Reserves after a reply, whose MAP, where it has one, is beside these, and settles or not
abbrev pub reserves_left : Config → Bool → List Spot → Reply → List Reserve → List Reserve
reserves_left c settles spots (replies.Built m) rs = reserves_past c settles spots m.wire.elements rs
reserves_left c settles spots reply rs = rs

-- the Reserves after a call with this reply
abbrev pub reserves_past_call : Config → Bool → List Spot → Call → Reply → List Reserve → List Reserve
reserves_past_call c settles spots call reply rs =
    reserves_with (reserve_by call reply) (reserves_left c settles spots reply rs)

-- the Reserves after the MAP of the next frame
abbrev pub reserves_behind : Config → List Entry → List Element → List Reserve → List Reserve
reserves_behind c h elements rs = reserves_past c (settles_after c h) (spots_after c h) elements rs

-- the Reserves after a reply that follows these entries
abbrev pub reserves_by : Config → List Entry → Reply → List Reserve → List Reserve
reserves_by c before reply rs = reserves_left c (settles_after c before) (spots_after c before) reply rs

-- the Reserves after an entry that follows these
abbrev pub reserves_then : Config → List Entry → Entry → List Reserve → List Reserve
reserves_then c before e rs =
    reserves_past_call c (settles_after c before) (spots_after c before) e.call e.reply rs

-- the Reserves after more entries than these, after which there were some
abbrev pub reserves_after : Config → List Entry → List Reserve → List Entry → List Reserve
reserves_after c before rs [] = rs
reserves_after c before rs (e ∷ es) = reserves_after c (before ++ e ∷ []) (reserves_then c before e rs) es

-- the Reserves of a history that are neither met nor lapsed, in their order
abbrev pub reserves_of : Config → List Entry → List Reserve
reserves_of c h = reserves_after c [] [] h

-- what the MAP of a reply that follows a history meets
abbrev pub met_after : Config → List Entry → Reply → List Met
met_after c h (replies.Built m) = met_by c h (reserves_of c h) m.wire.elements
met_after c h reply = []

-- how many Reserves lapse with the MAP of a reply that follows a history: it does not meet them, and is the last that
-- might have. None where it settles
abbrev pub lapses_by : Config → List Entry → Reply → ℕ
lapses_by c h (replies.Built m) = if settles_after c h then 0
    else count_by is_last (left_by (meets_place (met_after c h (replies.Built m))) (reserves_of c h))
lapses_by c h reply = 0

-- how many lapse in more entries than these
abbrev pub lapses_in : Config → List Entry → List Entry → ℕ
lapses_in c before [] = 0
lapses_in c before (e ∷ es) = lapses_by c before e.reply + lapses_in c (before ++ e ∷ []) es

-- whether Reserves grow older by a reply that follows a history: it has a MAP that does not settle
abbrev pub ages_by : Config → List Entry → Reply → Bool
ages_by c h (replies.Built m) = not (settles_after c h)
ages_by c h reply = false

-- how many MAPs more entries than these have that do not settle
abbrev pub ages_in : Config → List Entry → List Entry → ℕ
ages_in c before [] = 0
ages_in c before (e ∷ es) = (if ages_by c before e.reply then 1 else 0) + ages_in c (before ++ e ∷ []) es
