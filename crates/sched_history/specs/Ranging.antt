-- What follows for the opportunities and the headers of every legal history.
use Rattle.std.specs.Prelude.{◌≡◌, ℕ, ◌+◌, ◌<◌, ◌≤◌, Bool, true, false, ◌||◌, ◌==◌, List, [], ◌∷◌, ◌++◌, filter_map}
use Rattle.std.specs.Prelude.{count_by, take, drop, zip, length, Some, IsSomeAnd, Contains, ◌↔◌}
use Rattle.std.specs.List.{AllByRecursion, slice_get}
use Rattle.std.specs.Option.{option_map}
use Rattle.minislots.specs.declared.config.Config.{Config}
use Rattle.map_codec.specs.declared.element.Element.{Element}
use Rattle.map_codec.specs.declared.element.iuc.TheConstants.{INITIAL_MAINTENANCE, STATION_MAINTENANCE}
use Rattle.map_codec.specs.declared.wire_map.WireMap.{WireMap}
use Rattle.sched_calls.specs.declared.opportunity.Header.{Header}
use Rattle.sched_calls.specs.declared.opportunity.Opportunity.{Opportunity}
use Rattle.map_build.specs.declared.purpose.Allocation.{Allocation}
use Rattle.map_build.specs.declared.purpose.Purpose.TheVariants.{Offer}
use Rattle.map_build.specs.EachAfter.{EachAfter}
use Rattle.map_build.specs.Purpose.{element_of}
use Rattle.map_build.specs.Opportunities.{HasGap}
use Rattle.map_build.specs.declared.met.Met.{Met}
use Rattle.map_build.specs.Reading.{meets_place, meets_at}
use Rattle.sched_calls.specs.declared.call.TheConstants.{MAX_RESERVES}
use Rattle.sched_calls.specs.declared.reply.Reply.{Reply}
use Rattle.sched_calls.specs.declared.reply.Reply.TheVariants.{Built}
use Rattle.sched_calls.specs.declared.reply.Entry.{Entry}
use Rattle.sched_history.specs.declared.scheduler.reserves.Reserve.{Reserve}
use Rattle.sched_history.specs.Headers.{header_after}
use Rattle.sched_history.specs.Settling.{settles_after}
use Rattle.sched_history.specs.Reserves.{last_map, reserve_by, asked_for, waiting_in, spots_after, reserves_of, met_after}
use Rattle.sched_history.specs.Reserves.{ages_in}

-- the opportunities that the accepted Reserves of these entries ask for, in order
abbrev pub reserved_in : List Entry → List Opportunity
reserved_in entries = filter_map (λ e. reserve_by e.call e.reply) entries

-- the Reserves at the places that are met
abbrev pub reserves_met : List Met → List Reserve → List Reserve
reserves_met met rs = filter_map (λ x. slice_get rs x.place) met

-- the opportunities that the MAP of a reply to a history meets
abbrev pub offers_by : Config → List Entry → Reply → List Opportunity
offers_by c h reply = asked_for (reserves_met (met_after c h reply) (reserves_of c h))

-- the opportunities that the MAPs of more entries than these meet, in order
abbrev pub offers_after : Config → List Entry → List Entry → List Opportunity
offers_after c before [] = []
offers_after c before (e ∷ es) = offers_by c before e.reply ++ offers_after c (before ++ e ∷ []) es

-- Of opportunities of any kind as many are met by MAPs, and wait, as were asked for at most. So each Reserve is met at
-- most once, and no MAP meets an opportunity that was not asked for
abbrev pub MeetsOnce : Config → List Entry → Type 0
MeetsOnce c h = (kind : Opportunity → Bool)
    → count_by kind (offers_after c [] h) + count_by kind (asked_for (reserves_of c h)) ≤ count_by kind (reserved_in h)

-- Of what was asked for in the last entries, where they have fewer than 64 MAPs that do not settle, all was met there
-- or waits
abbrev pub LosesNone : Config → List Entry → Type 0
LosesNone c h = (n : ℕ) (kind : Opportunity → Bool) → ages_in c (take n h) (drop n h) < last_map
    → count_by kind (reserved_in (drop n h))
    ≤ count_by kind (offers_after c (take n h) (drop n h)) + count_by kind (asked_for (reserves_of c h))

-- What was asked for before the last entries, where they have 64 MAPs that do not settle, waits no more
abbrev pub LapsesInTime : Config → List Entry → Type 0
LapsesInTime c h = (n : ℕ) (kind : Opportunity → Bool) → last_map ≤ ages_in c (take n h) (drop n h)
    → count_by kind (asked_for (reserves_of c h)) ≤ count_by kind (reserved_in (drop n h))

-- each opportunity that a MAP meets was one of those that waited for it after these entries
abbrev pub MeetsWaiting : Config → List Entry → Reply → Type 0
MeetsWaiting c before reply =
    AllByRecursion (λ o. Contains (waiting_in (reserves_of c before)) o) (offers_by c before reply)

-- a MAP that does not settle meets the first that waits exactly where as many minislots stand together as that asks
-- for, behind the request region and between polls and unsolicited grants: so no data makes it wait. Nor has it another
-- opportunity where they do not
abbrev pub MeetsFirst : Config → List Entry → Reply → Type 0
MeetsFirst c before (Built m) = settles_after c before ≡ false → (o : Opportunity)
    → slice_get (waiting_in (reserves_of c before)) 0 ≡ Some o
    → (meets_place (met_after c before (Built m)) 0 ≡ true ↔ HasGap c (spots_after c before) o.slots)
    × (Contains (offers_by c before (Built m)) o → HasGap c (spots_after c before) o.slots)
MeetsFirst c before reply = Unit {0}

-- the allocation of an opportunity that is met
abbrev pub offer_at : Met → Opportunity → Allocation
offer_at x o = record { offset = x.offset; slots = o.slots; purpose = Offer x.place o.usage }

-- An opportunity that is met stands among these elements as one of its own, to the SID and with the code of its usage,
-- as long as it is up to the next element, and without bytes
pub record StandsIn (c : Config) (elements : List Element) (bytes : List ℕ) (x : Met) (o : Opportunity) : Type 0 where
  pub index : ℕ
  pub element : slice_get elements index ≡ Some (element_of c (offer_at x o))
  pub long : option_map (λ next. next.offset) (slice_get elements (index + 1)) ≡ Some (x.offset + o.slots)
  pub unasked : slice_get bytes index ≡ Some 0

-- so does each that the MAP of a reply to a history meets
abbrev pub HasWhatItMeets : Config → List Entry → Reply → Type 0
HasWhatItMeets c h (Built m) =
    AllByRecursion (λ x. IsSomeAnd (slice_get (waiting_in (reserves_of c h)) x.place)
    (StandsIn c m.wire.elements m.bytes x)) (met_after c h (Built m))
HasWhatItMeets c h reply = Unit {0}

-- whether an element is for initial or station maintenance
abbrev pub is_ranging : Element → Bool
is_ranging e = e.iuc == INITIAL_MAINTENANCE || e.iuc == STATION_MAINTENANCE

-- an element for maintenance has no bytes, and begins where an opportunity is met
abbrev pub IsMetThere : List Met → Element → ℕ → Type 0
IsMetThere met e bytes = is_ranging e ≡ true → (bytes ≡ 0) × (meets_at met e.offset ≡ true)

-- a MAP has no other maintenance than it meets
abbrev pub HasNoOther : Config → List Entry → Reply → Type 0
HasNoOther c h (Built m) =
    AllByRecursion (λ e. IsMetThere (met_after c h (Built m)) e.0 e.1) (zip m.wire.elements m.bytes)
HasNoOther c h reply = Unit {0}

-- the header of a payload
abbrev pub header_in : WireMap → Header
header_in m = record {
  ucd_count = m.ucd_count;
  ranging_start = m.ranging_start;
  ranging_end = m.ranging_end;
  data_start = m.data_start;
  data_end = m.data_end;
}

-- a MAP has the header that was set last, or the configuration's
abbrev pub HasLatestHeader : Config → List Entry → Reply → Type 0
HasLatestHeader c before (Built m) = header_in m.wire ≡ header_after c before
HasLatestHeader c before reply = Unit {0}

-- What who ranges may rely on after these entries
pub record HoldsForRanging (c : Config) (h : List Entry) : Type 0 where
  pub few : length (reserves_of c h) ≤ MAX_RESERVES
  pub met_once : MeetsOnce c h
  pub none_lost : LosesNone c h
  pub lapses : LapsesInTime c h
  pub waited : EachAfter (λ before e. MeetsWaiting c before e.reply) [] h
  pub first_met : EachAfter (λ before e. MeetsFirst c before e.reply) [] h
  pub met_stand : EachAfter (λ before e. HasWhatItMeets c before e.reply) [] h
  pub no_other : EachAfter (λ before e. HasNoOther c before e.reply) [] h
  pub headed : EachAfter (λ before e. HasLatestHeader c before e.reply) [] h
