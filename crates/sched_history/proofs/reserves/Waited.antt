-- The opportunities that a MAP meets waited for it, and the first that waits is met where there is a gap for it.
use Rattle.std.proofs.Common.{◌≡◌, ◌<◌, true, false, List, [], ◌∷◌, Some, slice_get, Contains, ◌↔◌, sym}
use Rattle.std.proofs.Common.{◌∙◌}
use Rattle.std.specs.List.{AllByRecursion}
use Rattle.std.proofs.lemmas.Option.{slice_get_within, get_or_from_slice_get}
use Rattle.minislots.specs.declared.config.Config.{Config}
use Rattle.map_codec.specs.declared.element.Element.{Element}
use Rattle.sched_calls.specs.declared.opportunity.Opportunity.{Opportunity}
use Rattle.map_build.specs.declared.purpose.Allocation.{Allocation}
use Rattle.map_build.specs.Opportunities.{HasGap}
use Rattle.map_build.specs.Plan.{Demand, IsPlan}
use Rattle.map_build.specs.declared.met.Met.{Met}
use Rattle.map_build.specs.Reading.{meets_place}
use Rattle.map_build.proofs.FirstMet.{first-met, met-gap}
use Rattle.map_build.proofs.Offers.{is_met-met, met-is_met}
use Rattle.map_build.proofs.Reading.{met_by_plan, meets_place-plan, met-member}
use Rattle.map_build.proofs.SameSpots.{all-members}
use Rattle.sched_calls.specs.declared.reply.Entry.{Entry}
use Rattle.sched_history.specs.declared.scheduler.reserves.Reserve.{Reserve}
use Rattle.sched_history.specs.Reserves.{asked_for, waiting_in, spots_after, met_by}
use Rattle.sched_history.specs.Ranging.{reserves_met}
use Rattle.sched_history.proofs.reserves.Sums.{all-met, met_by-each}

-- what holds of what Reserves ask for holds of all
all-asked : (P : Opportunity → Type 0) (rs : List Reserve) → AllByRecursion (λ r. P r.opportunity) rs
    → AllByRecursion P (asked_for rs)
all-asked P [] all = tt
all-asked P (r ∷ rs) all = (all.0, all-asked P rs all.1)

-- what holds of each opportunity that waits, and is met at its place, holds of all that a MAP meets
pub all-offers : (c : Config) (h : List Entry) (rs : List Reserve) (es : List Element) (P : Opportunity → Type 0)
    → ((x : Met) → Contains (met_by c h rs es) x → (o : Opportunity) → slice_get (waiting_in rs) x.place ≡ Some o → P o)
    → AllByRecursion P (asked_for (reserves_met (met_by c h rs es) rs))
all-offers c h rs es P each =
    all-asked P (reserves_met (met_by c h rs es) rs)
    (all-met c (spots_after c h) rs (λ r. P r.opportunity) [] (met_by c h rs es) (met_by-each c h rs es)
    (all-members (λ (x : Met). (r : Reserve) → slice_get (waiting_in rs) x.place ≡ Some r.opportunity → P r.opportunity)
    (met_by c h rs es) (λ x has r waits. each x has r.opportunity waits)))

-- each waited
pub offers-waited : (c : Config) (h : List Entry) (rs : List Reserve) (es : List Element)
    → AllByRecursion (λ o. Contains (waiting_in rs) o) (asked_for (reserves_met (met_by c h rs es) rs))
offers-waited c h rs es = all-offers c h rs es (λ o. Contains (waiting_in rs) o) (λ x has o waits. (
  x.place,
  slice_get_within (waiting_in rs) x.place o waits,
  get_or_from_slice_get (waiting_in rs) x.place o o waits,
))

module _ (c : Config) (d : Demand) (sends : d.settles ≡ false) (plan : List Allocation) (is : IsPlan c d plan) where
  -- the first that waits is met by a plan exactly where there is a gap for it
  pub plan-first : (o : Opportunity) → slice_get d.waiting 0 ≡ Some o → 0 < o.slots
      → meets_place (met_by_plan plan) 0 ≡ true ↔ HasGap c d.spots o.slots
  plan-first o waits some = (
    (λ meets. met-gap c d sends plan is 0 o waits (is_met-met plan 0 (sym (meets_place-plan plan 0) ∙ meets))),
    (λ gap. meets_place-plan plan 0 ∙ met-is_met plan 0 (first-met c d sends plan is o waits some gap)),
  )

  -- and where another is met there is one for that
  pub plan-gap : (x : Met) (o : Opportunity) → Contains (met_by_plan plan) x → slice_get d.waiting x.place ≡ Some o
      → HasGap c d.spots o.slots
  plan-gap x o has waits = met-gap c d sends plan is x.place o waits (met-member plan x has)
