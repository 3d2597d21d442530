-- Worked histories of Reserves: what a MAP meets, what waits, and what has lapsed.
use Rattle.std.proofs.Common.{◌≡◌, ℕ, zero, suc, List, [], ◌∷◌, ◌++◌, map, replicate, refl, ap, lit<}
use Rattle.std.specs.List.{AllByRecursion}
use Rattle.minislots.specs.Units.{wire_of}
use Rattle.map_codec.specs.declared.element.Element.{Element}
use Rattle.map_codec.specs.declared.element.iuc.TheConstants.{INITIAL_MAINTENANCE, STATION_MAINTENANCE, LONG_DATA_GRANT}
use Rattle.map_codec.specs.Element.{word_of}
use Rattle.sched_calls.proofs.Base.{base}
use Rattle.sched_calls.specs.declared.frame_map.FrameMap.{FrameMap}
use Rattle.sched_calls.specs.declared.opportunity.Usage.{Usage}
use Rattle.sched_calls.specs.declared.opportunity.Usage.TheVariants.{Initial, InitialTo, Station, Request, Quiet, DataTo}
use Rattle.sched_calls.proofs.BaseMaps.{first_map}
use Rattle.map_build.specs.Purpose.{broadcast}
use Rattle.map_build.specs.FrameMap.{request_region, null_element}
use Rattle.map_build.proofs.RowsOffers.{initial, initial_map, a_frame_with_an_opportunity_for_all}
use Rattle.sched_calls.specs.declared.call.Call.TheVariants.{Build, Reserve}
use Rattle.sched_calls.specs.declared.reply.Refusal.TheVariants.{BadSid, BadLength, ReservesFull}
use Rattle.sched_calls.specs.declared.reply.Reply.TheVariants.{Built, Reserved, Refused}
use Rattle.sched_calls.specs.declared.reply.Entry.{Entry}
use Rattle.sched_history.specs.Reserves.{new_reserve, reserves_of, waiting_in}
use Rattle.sched_history.specs.History.{IsStep, IsLegal}
use Rattle.sched_history.proofs.lives.LiveFlows.{flows_of-none, table_of-none}
use Rattle.sched_history.proofs.rows.NextMap.{idle_map, IsNextMap-reserved, IsNextMap-unreserved}
use Rattle.sched_history.proofs.reserves.Idle.{LeavesPlaces, unplaced_after, reserves_after-unplaced}
use Rattle.sched_history.proofs.rows.TwoMaps.{entry}

-- an opportunity of 8 minislots for all modems is asked for
abbrev asked : Entry
asked = entry 0 (Reserve Initial 8) Reserved

-- a MAP with this acknowledge time
abbrev with_ack : ℕ → FrameMap → FrameMap
with_ack ack m = record m { ack = ack; wire = record m.wire { ack = wire_of ack } }

-- the MAP that has it
abbrev meets : FrameMap
meets = with_ack 800 initial_map

-- a Reserve places no flow, and no MAP does
reserve-leaves : (usage : Usage) (slots : ℕ) → LeavesPlaces (entry 0 (Reserve usage slots) Reserved)
reserve-leaves usage slots = record { turns = λ sid. refl; changes = λ sid. refl; rests = λ sid. refl }

build-leaves : (n now : ℕ) (m : FrameMap) → LeavesPlaces (entry n (Build now) (Built m))
build-leaves n now m = record { turns = λ sid. refl; changes = λ sid. refl; rests = λ sid. refl }

-- so the Reserves of such entries are read in frames in which nothing has its place
read : (h : List Entry) → AllByRecursion LeavesPlaces h → reserves_of base h ≡ unplaced_after base [] h
read h all = reserves_after-unplaced base (λ h. refl) [] h [] (table_of-none [] (λ sid. refl)) all

-- a MAP that has it may follow
the_opportunity_is_met : IsStep base (asked ∷ []) (Build 760) (Built meets)
the_opportunity_is_met = let lawful = a_frame_with_an_opportunity_for_all in (
  meets,
  IsNextMap-reserved base (asked ∷ []) [] [] (new_reserve (initial 8) ∷ []) meets
      (flows_of-none base (asked ∷ []) (λ sid. refl)) (table_of-none (asked ∷ []) (λ sid. refl)) refl
      (lawful.0, lawful.1, ap (with_ack 800) lawful.2),
  refl,
)

-- it is an element of its own behind the request region
the_words_of_the_met_opportunity : map word_of meets.wire.elements
    ≡ 0xfffc4000 ∷ 0xfffcc004 ∷ 0x0001800c ∷ 0x0001c028 ∷ []
the_words_of_the_met_opportunity = refl

-- it is met once: the next MAP is idle
it_is_met_once : IsStep base (asked ∷ entry 1 (Build 760) (Built meets) ∷ []) (Build 800)
    (Built (idle_map base 840 800))
it_is_met_once = (
  idle_map base 840 800,
  IsNextMap-unreserved base (asked ∷ entry 1 (Build 760) (Built meets) ∷ []) (lit< tt) (λ sid. refl)
      (read (asked ∷ entry 1 (Build 760) (Built meets) ∷ []) (reserve-leaves Initial 8, (build-leaves 1 760 meets, tt)))
      refl refl,
  refl,
)

-- the history is legal
pub an_opportunity_is_met_once : IsLegal base
    (asked ∷ entry 1 (Build 760) (Built meets) ∷ entry 2 (Build 800) (Built (idle_map base 840 800)) ∷ [])
an_opportunity_is_met_once = (refl, (the_opportunity_is_met, (it_is_met_once, tt)))

-- an opportunity ends with the frame at the latest
pub an_opportunity_longer_than_the_frame_is_refused : IsStep base [] (Reserve Initial 37) (Refused BadLength)
an_opportunity_longer_than_the_frame_is_refused = refl

-- it may be as long as what is behind the request region
pub an_opportunity_as_long_as_the_frame_is_reserved : IsStep base [] (Reserve Initial 36) Reserved
an_opportunity_as_long_as_the_frame_is_reserved = refl

-- and has a minislot at least
pub an_opportunity_of_nothing_is_refused : IsStep base [] (Reserve (Station 9) 0) (Refused BadLength)
an_opportunity_of_nothing_is_refused = refl

-- a modem's SID is one that a flow may have, whether or not one is live
pub an_opportunity_to_a_bad_sid_is_refused : IsStep base [] (Reserve (Station 8192) 0) (Refused BadSid)
an_opportunity_to_a_bad_sid_is_refused = refl

-- requests may come from a modem, from those with some priorities and from all modems
pub a_request_of_some_priorities_is_reserved : IsStep base [] (Reserve (Request 15873) 2) Reserved
a_request_of_some_priorities_is_reserved = refl

pub a_request_of_all_priorities_is_reserved : IsStep base [] (Reserve (Request 16127) 2) Reserved
a_request_of_all_priorities_is_reserved = refl

pub a_request_of_all_modems_is_reserved : IsStep base [] (Reserve (Request 16383) 2) Reserved
a_request_of_all_modems_is_reserved = refl

-- and from no other SID
pub a_request_to_a_bad_sid_is_refused : (IsStep base [] (Reserve (Request 0) 2) (Refused BadSid))
    × (IsStep base [] (Reserve (Request 8192) 2) (Refused BadSid))
    × (IsStep base [] (Reserve (Request 15872) 2) (Refused BadSid))
    × (IsStep base [] (Reserve (Request 16128) 2) (Refused BadSid))
    × (IsStep base [] (Reserve (Request 16382) 2) (Refused BadSid))
a_request_to_a_bad_sid_is_refused = (refl, refl, refl, refl, refl)

-- ranging and data are for one modem
pub data_to_all_modems_are_refused : (IsStep base [] (Reserve (DataTo 16383) 2) (Refused BadSid))
    × (IsStep base [] (Reserve (DataTo 15873) 2) (Refused BadSid))
    × (IsStep base [] (Reserve (InitialTo 16383) 8) (Refused BadSid))
data_to_all_modems_are_refused = (refl, refl, refl)

-- nobody sends in a quiet window, so it has no SID that could be wrong
pub a_quiet_window_is_reserved : IsStep base [] (Reserve Quiet 36) Reserved
a_quiet_window_is_reserved = refl

-- so many Reserves of one minislot
abbrev many : ℕ → List Entry
many n = replicate n (entry 0 (Reserve Initial 1) Reserved)

-- sixty-four may wait
pub sixty_four_are_reserved : IsStep base (many 63) (Reserve Initial 1) Reserved
sixty_four_are_reserved = refl

-- and no more
pub a_sixty_fifth_is_refused : IsStep base (many 64) (Reserve Initial 1) (Refused ReservesFull)
a_sixty_fifth_is_refused = refl

-- sixteen of them wait for the next MAP
pub sixteen_wait_for_a_map : waiting_in (reserves_of base (many 64)) ≡ replicate 16 (initial 1)
sixteen_wait_for_a_map = refl

-- the MAP of the first frame with other elements
abbrev with_elements : List Element → FrameMap
with_elements elements = record first_map { wire = record first_map.wire { elements = elements } }

-- a MAP in which nothing stands behind the request region
abbrev empty : FrameMap
empty = with_elements (request_region ∷ null_element base ∷ [])

-- so many of them
abbrev maps : ℕ → List Entry
maps n = replicate n (entry 0 (Build 760) (Built empty))

maps-leave : (n : ℕ) → AllByRecursion LeavesPlaces (maps n)
maps-leave zero = tt
maps-leave (suc n) = (build-leaves 0 760 empty, maps-leave n)

-- a Reserve that a MAP does not meet is older
pub a_map_ages_a_reserve : reserves_of base (asked ∷ maps 1) ≡ record { opportunity = initial 8; maps = 1 } ∷ []
a_map_ages_a_reserve = read (asked ∷ maps 1) (reserve-leaves Initial 8, maps-leave 1)

-- sixty-three MAPs that did not meet it leave it
pub sixty_three_maps_leave_a_reserve : reserves_of base (asked ∷ maps 63)
    ≡ record { opportunity = initial 8; maps = 63 } ∷ []
sixty_three_maps_leave_a_reserve = read (asked ∷ maps 63) (reserve-leaves Initial 8, maps-leave 63)

-- after sixty-four it has lapsed
pub a_reserve_lapses_after_sixty_four_maps : reserves_of base (asked ∷ maps 64) ≡ []
a_reserve_lapses_after_sixty_four_maps = read (asked ∷ maps 64) (reserve-leaves Initial 8, maps-leave 64)

-- an element of this SID and code at this offset
abbrev at : ℕ → ℕ → ℕ → Element
at offset sid iuc = record { sid = sid; iuc = iuc; offset = offset }

-- a MAP with one element behind the request region
abbrev one : FrameMap
one = with_elements (request_region ∷ at 4 broadcast INITIAL_MAINTENANCE ∷ null_element base ∷ [])

-- of two that are alike a MAP with one opportunity meets the first
pub the_first_of_two_alike_is_met : reserves_of base (asked ∷ maps 1 ++ asked ∷ entry 1 (Build 760) (Built one) ∷ [])
    ≡ record { opportunity = initial 8; maps = 1 } ∷ []
the_first_of_two_alike_is_met = read (asked ∷ maps 1 ++ asked ∷ entry 1 (Build 760) (Built one) ∷ [])
    (reserve-leaves Initial 8, (build-leaves 0 760 empty, (reserve-leaves Initial 8, (build-leaves 1 760 one, tt))))

-- an opportunity stands where it is to, whatever the element there says
pub a_word_is_not_read : reserves_of base
    (entry 0 (Reserve (Station 9) 8) Reserved ∷ entry 1 (Build 760) (Built meets) ∷ []) ≡ []
a_word_is_not_read = read (entry 0 (Reserve (Station 9) 8) Reserved ∷ entry 1 (Build 760) (Built meets) ∷ [])
    (reserve-leaves (Station 9) 8, (build-leaves 1 760 meets, tt))

-- a MAP with an element of 30 minislots, and one of the 6 that are left
abbrev two : FrameMap
two = with_elements (request_region ∷ at 4 9 STATION_MAINTENANCE ∷ at 34 0 LONG_DATA_GRANT ∷ null_element base ∷ [])

-- what is longer than the room waits
pub what_has_no_room_waits : reserves_of base
    (entry 0 (Reserve (Station 9) 30) Reserved ∷ asked ∷ entry 1 (Build 760) (Built two) ∷ [])
    ≡ record { opportunity = initial 8; maps = 1 } ∷ []
what_has_no_room_waits =
    read (entry 0 (Reserve (Station 9) 30) Reserved ∷ asked ∷ entry 1 (Build 760) (Built two) ∷ [])
    (reserve-leaves (Station 9) 30, (reserve-leaves Initial 8, (build-leaves 1 760 two, tt)))

-- a refused build loses none
pub a_refused_build_loses_no_reserve : reserves_of base (asked ∷ entry 1 (Build 0) (Refused BadLength) ∷ [])
    ≡ record { opportunity = initial 8; maps = 0 } ∷ []
a_refused_build_loses_no_reserve = refl
