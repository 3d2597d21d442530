-- The opportunities that wait for a MAP.
use Rattle.std.specs.Prelude.{◌≡◌, ℕ, ◌+◌, ◌^◌, ◌<◌, ◌≤◌, Bool, true, false, List, length, Some}
use Rattle.std.specs.List.{AllByRecursion, slice_get}
use Rattle.minislots.specs.declared.config.Config.{Config}
use Rattle.periodic.specs.declared.placement.Spot.{Spot}
use Rattle.periodic.specs.Placement.{AreFree}
use Rattle.map_build.specs.declared.TheConstants.{MAX_WAITING}
use Rattle.sched_calls.specs.declared.opportunity.Opportunity.{Opportunity}
use Rattle.map_build.specs.Purpose.{sid_for}

-- each goes to a SID that an element may have
abbrev pub HaveElementSids : List Opportunity → Type 0
HaveElementSids waiting = AllByRecursion (λ o. sid_for o.usage < 2 ^ 14) waiting

-- these opportunities may wait for a MAP: each has some minislots, and they are few
pub record MayWait (waiting : List Opportunity) : Type 0 where
  pub few : length waiting ≤ MAX_WAITING
  pub some_slots : AllByRecursion (λ o. 0 < o.slots) waiting

-- the opportunity at this place is not met, and is at most so long
pub record IsUnmet (waiting : List Opportunity) (met : List Bool) (room place : ℕ) : Type 0 where
  pub opportunity : Opportunity
  pub waits : slice_get waiting place ≡ Some opportunity
  pub unmet : slice_get met place ≡ Some false
  pub fits : opportunity.slots ≤ room

-- it is the first such
pub record IsFirstUnmet (waiting : List Opportunity) (met : List Bool) (room place : ℕ) : Type 0 where
  pub is : IsUnmet waiting met room place
  pub first : (other : ℕ) → IsUnmet waiting met room other → place ≤ other

-- there is none such
abbrev pub NoneUnmet : List Opportunity → List Bool → ℕ → Type 0
NoneUnmet waiting met room = (place : ℕ) → IsUnmet waiting met room place → ⊥

-- somewhere behind the request region of a frame so many minislots stand together of which no spot has one
pub record HasGap (c : Config) (spots : List Spot) (slots : ℕ) : Type 0 where
  pub from : ℕ
  pub behind : c.req_slots ≤ from
  pub within : from + slots ≤ c.frame
  pub free : AreFree spots from slots

-- Of the opportunities that wait a MAP with these marks has the first one exactly where its frame has such a gap for
-- it. So only polls and unsolicited grants can make it wait, and never data.
pub record MeetsFirst (c : Config) (spots : List Spot) (waiting : List Opportunity) (met : List Bool) : Type 0 where
  pub meets : (o : Opportunity) → slice_get waiting 0 ≡ Some o → HasGap c spots o.slots → slice_get met 0 ≡ Some true
  pub only : (o : Opportunity) → slice_get waiting 0 ≡ Some o → slice_get met 0 ≡ Some true → HasGap c spots o.slots
