-- Worked rows: what the minislots of frames are for.
use Rattle.std.proofs.Common.{◌≡◌, ℕ, false, List, [], ◌∷◌, refl, ap}
use Rattle.map_codec.specs.declared.element.Element.{Element}
use Rattle.map_drawing.specs.Allocation.{allocations_of}
use Rattle.periodic.specs.Placement.{Placed, due_in}
use Rattle.sched_calls.proofs.Base.{base}
use Rattle.sched_calls.proofs.BaseMaps.{element, base_map}
use Rattle.sched_calls.specs.declared.opportunity.Usage.{Usage}
use Rattle.sched_calls.specs.declared.opportunity.Usage.TheVariants.{Request, Quiet, DataTo, InitialTo}
use Rattle.sched_calls.specs.declared.call.Call.TheVariants.{Reserve}
use Rattle.sched_calls.specs.declared.reply.Reply.TheVariants.{Reserved}
use Rattle.sched_calls.specs.declared.reply.Entry.{Entry}
use Rattle.map_build.specs.declared.met.Met.{Met}
use Rattle.map_build.specs.Reading.{met_from, met_in}
use Rattle.sched_history.specs.Reserves.{reserves_of, waiting_in}
use Rattle.sched_history.proofs.lives.LiveFlows.{table_of-none}
use Rattle.sched_history.proofs.rows.TwoMaps.{entry}
use Rattle.frame_picture.specs.Frames.{Frame, is_unsolicited_after}
use Rattle.frame_picture.specs.OpenIdle.{is_open_idle}
use Rattle.sched_report.specs.declared.slots.Slots.{Slots}
use Rattle.sched_report.specs.Uses.{use_of, slots_among, slots_in}

-- the minislots of a frame of these elements by their use, which meets these opportunities, and in which no flow is
-- unsolicited
abbrev uses_in : List Met → List Element → Slots
uses_in met es = slots_among met (λ sid. false) (allocations_of es)

-- so many minislots of three uses
abbrev asked_and_idle : ℕ → ℕ → ℕ → Slots
asked_and_idle request open_idle idle = record {
  data_grants = 0;
  idle = idle;
  open_idle = open_idle;
  opportunity = 0;
  poll = 0;
  request = request;
  unsolicited = 0;
}

-- all modems may ask in the request region, which begins the frame, and in an idle behind it
all_may_ask_in_an_open_idle : uses_in [] (element 0x3fff 1 0 ∷ element 0x3fff 1 4 ∷ element 0 7 40 ∷ [])
    ≡ asked_and_idle 4 36 0
unfolding use_of is_open_idle
all_may_ask_in_an_open_idle = refl

-- and a frame in which nobody sends is idle from its begin on
nobody_sends : uses_in [] (element 0 6 0 ∷ element 0 7 40 ∷ []) ≡ asked_and_idle 0 0 40
unfolding use_of is_open_idle
nobody_sends = refl

-- an element of this SID and usage code, 6 minislots long behind the request region, and an idle behind it
abbrev beside_an_idle : ℕ → ℕ → List Element
beside_an_idle sid iuc = element 0x3fff 1 0 ∷ element sid iuc 4 ∷ element 0 6 10 ∷ element 0 7 40 ∷ []

-- an opportunity is met there
abbrev one_met : List Met
one_met = met_from 4 0 ∷ []

-- its minislots are those of an opportunity
abbrev an_opportunity : Slots
an_opportunity = record (asked_and_idle 4 0 30) { opportunity = 6 }

-- what is met is an opportunity, and what is not is what its element says: a window in which nobody sends
a_quiet_window_is_met : uses_in one_met (beside_an_idle 0 6) ≡ an_opportunity
unfolding use_of is_open_idle
a_quiet_window_is_met = refl

an_idle_is_not : uses_in [] (beside_an_idle 0 6) ≡ asked_and_idle 4 0 36
unfolding use_of is_open_idle
an_idle_is_not = refl

-- minislots in which one modem may ask
a_request_opportunity_is_met : uses_in one_met (beside_an_idle 9 1) ≡ an_opportunity
unfolding use_of is_open_idle
a_request_opportunity_is_met = refl

a_poll_is_not : uses_in [] (beside_an_idle 9 1) ≡ record (asked_and_idle 4 0 30) { poll = 6 }
unfolding use_of is_open_idle
a_poll_is_not = refl

-- minislots in which all modems may ask
a_request_opportunity_of_all_is_met : uses_in one_met (beside_an_idle 0x3fff 1) ≡ an_opportunity
unfolding use_of is_open_idle
a_request_opportunity_of_all_is_met = refl

an_open_idle_is_not : uses_in [] (beside_an_idle 0x3fff 1) ≡ asked_and_idle 4 6 30
unfolding use_of is_open_idle
an_open_idle_is_not = refl

-- minislots in which one modem may send, and which ask for no bytes
an_opportunity_to_send_is_met : uses_in one_met (beside_an_idle 18 6) ≡ an_opportunity
unfolding use_of is_open_idle
an_opportunity_to_send_is_met = refl

a_data_grant_is_not : uses_in [] (beside_an_idle 18 6) ≡ record (asked_and_idle 4 0 30) { data_grants = 6 }
unfolding use_of is_open_idle
a_data_grant_is_not = refl

-- a frame with these elements behind a history, in which one opportunity of 6 minislots is reserved
abbrev reserved : Usage → List Entry
reserved usage = entry 0 (Reserve usage 6) Reserved ∷ []

abbrev after : Usage → ℕ → ℕ → Frame
after usage sid iuc = record {
  before = reserved usage;
  built = base_map 800 800 (beside_an_idle sid iuc) (0 ∷ 0 ∷ 0 ∷ 0 ∷ []);
}

-- its uses, where no flow lives
uses_after : (usage : Usage) (sid iuc : ℕ)
    → slots_in base (after usage sid iuc)
    ≡ slots_among (met_in base [] (waiting_in (reserves_of base (reserved usage))) (beside_an_idle sid iuc))
    (is_unsolicited_after (reserved usage)) (allocations_of (beside_an_idle sid iuc))
uses_after usage sid iuc =
    ap (λ (table : List Placed). slots_among
    (met_in base (due_in base 20 table) (waiting_in (reserves_of base (reserved usage))) (beside_an_idle sid iuc))
    (is_unsolicited_after (reserved usage)) (allocations_of (beside_an_idle sid iuc)))
    (table_of-none (reserved usage) (λ sid. refl))

-- what the plan places there is an opportunity
a_quiet_window_was_reserved : slots_in base (after Quiet 0 6) ≡ an_opportunity
unfolding use_of is_open_idle
a_quiet_window_was_reserved = uses_after Quiet 0 6

a_request_opportunity_was_reserved : slots_in base (after (Request 9) 9 1) ≡ an_opportunity
unfolding use_of is_open_idle
a_request_opportunity_was_reserved = uses_after (Request 9) 9 1

one_of_all_modems_was_reserved : slots_in base (after (Request 0x3fff) 0x3fff 1) ≡ an_opportunity
unfolding use_of is_open_idle
one_of_all_modems_was_reserved = uses_after (Request 0x3fff) 0x3fff 1

an_opportunity_to_send_was_reserved : slots_in base (after (DataTo 18) 18 6) ≡ an_opportunity
unfolding use_of is_open_idle
an_opportunity_to_send_was_reserved = uses_after (DataTo 18) 18 6

-- whatever its element says
an_opportunity_of_other_words_was_reserved : slots_in base (after (InitialTo 9) 0 6) ≡ an_opportunity
unfolding use_of is_open_idle
an_opportunity_of_other_words_was_reserved = uses_after (InitialTo 9) 0 6
