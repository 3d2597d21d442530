-- What a MAP meets of the opportunities that wait for it, read from where its elements begin: never by their words.
use Rattle.std.specs.Prelude.{◌≡◌, ℕ, ◌+◌, ◌≤◌, Bool, false, not, ◌&&◌, nat_le, ◌==◌, List, [], ◌∷◌, ◌++◌, map, drop}
use Rattle.std.specs.Prelude.{Option, None, Some, if◌then◌else◌}
use Rattle.std.specs.List.{slice_get, list_any}
use Rattle.std.specs.Option.{option_to_list}
use Rattle.minislots.specs.declared.config.Config.{Config}
use Rattle.map_codec.specs.declared.element.Element.{Element}
use Rattle.periodic.specs.declared.placement.Spot.{Spot}
use Rattle.sched_calls.specs.declared.opportunity.Opportunity.{Opportunity}
use Rattle.map_build.specs.Plan.{room_at}
use Rattle.map_build.specs.declared.met.Met.{Met}

-- the one of this place that begins there
abbrev pub met_from : ℕ → ℕ → Met
met_from offset place = record { offset = offset; place = place }

-- whether the opportunity at this place is met
abbrev pub meets_place : List Met → ℕ → Bool
meets_place met place = list_any (λ x. place == x.place) met

-- whether an opportunity that is met begins there
abbrev pub meets_at : List Met → ℕ → Bool
meets_at met offset = list_any (λ x. offset == x.offset) met

-- the place of the first of these opportunities that is not met and is at most as long as the room, where the first of
-- them has this place
abbrev pub first_to_meet : List Met → ℕ → ℕ → List Opportunity → Option ℕ
first_to_meet met room place [] = None
first_to_meet met room place (o ∷ waiting) = if nat_le o.slots room && not (meets_place met place) then Some place
    else first_to_meet met room (place + 1) waiting

-- what is met at an offset where these were met before: the first that waits and has room. Where a poll or an
-- unsolicited grant begins, and where the frame ends, there is no room
abbrev pub met_at : Config → List Spot → List Opportunity → List Met → ℕ → List Met
met_at c spots waiting met offset =
    map (met_from offset) (option_to_list (first_to_meet met (room_at c spots offset) 0 waiting))

-- what is met with these offsets, in their order
abbrev pub met_over : Config → List Spot → List Opportunity → List Met → List ℕ → List Met
met_over c spots waiting met [] = met
met_over c spots waiting met (offset ∷ offsets) =
    met_over c spots waiting (met ++ met_at c spots waiting met offset) offsets

-- what the MAP with these elements meets: the one at its head is none
abbrev pub met_in : Config → List Spot → List Opportunity → List Element → List Met
met_in c spots waiting elements = met_over c spots waiting [] (map (λ e. e.offset) (drop 1 elements))

-- An opportunity that is met behind these waits at its place, was not met, and has room where it begins
pub record IsMetBehind (c : Config) (spots : List Spot) (waiting : List Opportunity) (before : List Met) (x : Met) :
    Type 0 where
  pub opportunity : Opportunity
  pub waits : slice_get waiting x.place ≡ Some opportunity
  pub unmet : meets_place before x.place ≡ false
  pub fits : opportunity.slots ≤ room_at c spots x.offset
