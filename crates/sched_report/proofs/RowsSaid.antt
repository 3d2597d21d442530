-- Worked rows: the requests and the grants of a best effort flow and of an unsolicited one.
use Rattle.std.proofs.Common.{◌≡◌, ℕ, ◌+◌, Bool, true, false, List, [], ◌∷◌, ◌++◌, length, None, Some, refl, ap}
use Rattle.sched_calls.specs.declared.spec.FlowSpec.TheVariants.{BestEffort, Unsolicited, Polled}
use Rattle.sched_calls.proofs.Base.{base}
use Rattle.sched_calls.specs.declared.frame_map.FrameMap.{FrameMap}
use Rattle.sched_calls.proofs.BaseMaps.{element, base_map}
use Rattle.sched_calls.specs.declared.amount.Amount.TheVariants.{Bytes}
use Rattle.sched_calls.specs.declared.opportunity.Usage.TheVariants.{DataTo}
use Rattle.sched_calls.specs.declared.call.Call.TheVariants.{Ask, Build, Replace, Change, Reserve}
use Rattle.sched_calls.specs.declared.reply.Reply.TheVariants.{Taken, Built, Changed, Reserved}
use Rattle.sched_calls.specs.declared.reply.Entry.{Entry}
use Rattle.periodic.specs.Placement.{Placed, due_in}
use Rattle.map_build.specs.Reading.{met_from, met_in}
use Rattle.sched_history.specs.Reserves.{reserves_of, waiting_in as waiting_for}
use Rattle.sched_history.proofs.lives.LiveFlows.{table_of-none}
use Rattle.sched_history.proofs.rows.TwoMaps.{entry}
use Rattle.sched_report.specs.Lives.{PastLife, spec_of}
use Rattle.sched_report.specs.Said.{claims_of, delays_in, replaced_in, waiting_in, dropped_in, outstanding_in}
use Rattle.sched_report.specs.Said.{granted_in, unsolicited_of_map, priority_of}
use Rattle.sched_report.specs.Ranks.{is_of_rank, lives_of_rank, asks_among, granted_among, waiting_among}
use Rattle.sched_report.specs.Ranks.{dropped_among, delays_in_all}
use Rattle.frame_picture.specs.OpenIdle.{is_open_idle}
use Rattle.sched_report.specs.Uses.{use_of}

-- one grant of 150 bytes in 12 minislots, from 844 to 856
abbrev granted : FrameMap
granted = base_map 840 800 (element 0x3fff 1 0 ∷ element 17 6 4 ∷ element 0 6 16 ∷ element 0 7 40 ∷ [])
    (0 ∷ 150 ∷ 0 ∷ 0 ∷ [])

-- it serves requests of 100 and of 50 bytes; one of 70 comes after it
abbrev requests : List Entry
requests = entry 2 (Ask 0 17 (Bytes 100) 800) Taken ∷ entry 3 (Ask 0 17 (Bytes 50) 810) Taken
    ∷ entry 4 (Build 800) (Built granted) ∷ entry 5 (Ask 0 17 (Bytes 70) 860) Taken ∷ []

abbrev life : Bool → PastLife
life ended = record { sid = 17; first = BestEffort 3 0 0 0 0 0; upto = []; since = requests; ended = ended; passed = 0 }

-- each delay is up to the end of the grant
two_are_served : delays_in base (life false) ≡ 56 ∷ 46 ∷ []
two_are_served = refl

one_waits : waiting_in base (life false) ≡ 1
one_waits = refl

none_was_dropped : dropped_in base (life false) ≡ 0
none_was_dropped = refl

none_waits_at_the_end : waiting_in base (life true) ≡ 0
none_waits_at_the_end = refl

one_was_dropped : dropped_in base (life true) ≡ 1
one_was_dropped = refl

seventy_bytes_are_outstanding : outstanding_in base (life true) ≡ 70
seventy_bytes_are_outstanding = refl

its_data_grants_are_counted : granted_in base (life true) ≡ 150
its_data_grants_are_counted = refl

-- two unsolicited grants of 32 bytes to SID 18 in a frame, beside a data grant to SID 17 and a poll of SID 19
abbrev twice : FrameMap
twice = base_map 880 800
    (element 0x3fff 1 0 ∷ element 18 5 4 ∷ element 17 5 8 ∷ element 18 5 12 ∷ element 19 1 16 ∷ element 0 6 18
    ∷ element 0 7 40 ∷ []) (0 ∷ 0 ∷ 32 ∷ 0 ∷ 0 ∷ 0 ∷ 0 ∷ [])

abbrev voice : PastLife
voice = record {
  sid = 18;
  first = Unsolicited 32 1000 100 2;
  upto = [];
  since = entry 2 (Build 760) (Built twice) ∷ entry 3 (Build 800) (Built twice) ∷ [];
  ended = false;
  passed = 0;
}

four_grants_are_128_bytes : granted_in base voice ≡ 128
unfolding use_of is_open_idle
four_grants_are_128_bytes = refl

nothing_is_outstanding : outstanding_in base voice ≡ 0
nothing_is_outstanding = refl

a_poll_is_no_grant : granted_in base (record voice { sid = 19 }) ≡ 0
unfolding use_of is_open_idle
a_poll_is_no_grant = refl

-- where the first of them is an opportunity to send that is met, it is none of its grants
an_opportunity_to_send_is_no_grant : unsolicited_of_map (met_from 4 0 ∷ []) (Unsolicited 32 1000 100 2) 18 twice ≡ 32
unfolding use_of is_open_idle
an_opportunity_to_send_is_no_grant = refl

-- one is reserved before the flow lives, and its first MAP meets it there
abbrev beside_an_opportunity : PastLife
beside_an_opportunity = record voice {
  upto = entry 1 (Reserve (DataTo 18) 4) Reserved ∷ [];
  since = entry 2 (Build 760) (Built twice) ∷ [];
}

one_grant_is_32_bytes : granted_in base beside_an_opportunity ≡ 32
unfolding use_of is_open_idle
one_grant_is_32_bytes =
    ap (λ (table : List Placed). unsolicited_of_map
    (met_in base (due_in base 20 table) (waiting_for (reserves_of base beside_an_opportunity.upto)) twice.wire.elements)
    (Unsolicited 32 1000 100 2) 18 twice + 0) (table_of-none beside_an_opportunity.upto (λ sid. refl))

-- 544 of 1000 bytes are granted in 36 minislots, from 844 to 880
abbrev part : FrameMap
part = base_map 840 801 (element 0x3fff 1 0 ∷ element 17 6 4 ∷ element 0 7 40 ∷ []) (0 ∷ 544 ∷ 0 ∷ [])

-- then all that is asked behind that, of a flow that had 200 and 800 bytes more, in two MAPs
abbrev rest : ℕ → FrameMap
rest start = base_map start 841 (element 0x3fff 1 0 ∷ element 17 6 4 ∷ element 0 7 40 ∷ []) (0 ∷ 500 ∷ 0 ∷ [])

-- a request of 1000 bytes, its first grant, and what follows it
abbrev asked_once : List Entry → PastLife
asked_once more = record {
  sid = 17;
  first = BestEffort 3 0 0 0 0 0;
  upto = [];
  since = entry 2 (Ask 0 17 (Bytes 1000) 801) Taken ∷ entry 3 (Build 800) (Built part) ∷ more;
  ended = false;
  passed = 0;
}

-- a request of 200 bytes supersedes it
abbrev replaced_by_200 : List Entry → PastLife
replaced_by_200 more = asked_once (entry 4 (Replace 0 17 (Bytes 200) 841) Taken ∷ more)

one_is_replaced : replaced_in base (replaced_by_200 []) ≡ 1
one_is_replaced = refl

the_other_waits : waiting_in base (replaced_by_200 []) ≡ 1
the_other_waits = refl

both_were_asked : length (claims_of base (replaced_by_200 [])) ≡ 2
both_were_asked = refl

-- 744 bytes were asked then, of which 544 were granted
two_hundred_are_outstanding : outstanding_in base (replaced_by_200 []) ≡ 200
two_hundred_are_outstanding = refl

-- one for no bytes supersedes it too, and is none itself
abbrev withdrawn : PastLife
withdrawn = asked_once (entry 4 (Replace 0 17 (Bytes 0) 841) Taken ∷ [])

one_is_replaced_by_none : replaced_in base withdrawn ≡ 1
one_is_replaced_by_none = refl

none_was_asked_more : length (claims_of base withdrawn) ≡ 1
none_was_asked_more = refl

none_waits_for_more : waiting_in base withdrawn ≡ 0
none_waits_for_more = refl

none_is_outstanding : outstanding_in base withdrawn ≡ 0
none_is_outstanding = refl

-- with 800 bytes more, 1544 are granted in the end: that serves the last two requests, and the first stays replaced
abbrev served_then : PastLife
served_then = replaced_by_200 (entry 5 (Ask 0 17 (Bytes 800) 842) Taken ∷ entry 6 (Build 840) (Built (rest 880))
    ∷ entry 7 (Build 880) (Built (rest 920)) ∷ [])

two_are_served_then : length (delays_in base served_then) ≡ 2
two_are_served_then = refl

one_stays_replaced : replaced_in base served_then ≡ 1
one_stays_replaced = refl

none_waits_then : waiting_in base served_then ≡ 0
none_waits_then = refl

-- a request that is superseded after it was served was served
abbrev served_first : PastLife
served_first = record (life false) { since = requests ++ entry 6 (Replace 0 17 (Bytes 10) 870) Taken ∷ [] }

the_served_ones_stay : delays_in base served_first ≡ 56 ∷ 46 ∷ []
the_served_ones_stay = refl

the_last_is_replaced : replaced_in base served_first ≡ 1
the_last_is_replaced = refl

-- two grants of 32 bytes, and behind a change two of 48
abbrev changed_voice : PastLife
changed_voice = record voice {
  since = entry 2 (Build 760) (Built twice) ∷ entry 3 (Change 18 (Unsolicited 48 1000 100 2)) (Changed None)
      ∷ entry 4 (Build 800) (Built twice) ∷ [];
}

each_grant_counts_by_its_size : granted_in base changed_voice ≡ 160
unfolding use_of is_open_idle
each_grant_counts_by_its_size = refl

the_last_size_is_told : spec_of changed_voice ≡ Unsolicited 48 1000 100 2
the_last_size_is_told = refl

-- a life is of the rank that its last change gives
abbrev promoted : PastLife
promoted = record (life false) {
  since = requests ++ entry 6 (Change 17 (BestEffort 6 0 0 0 0 0)) (Changed None) ∷ [];
}

it_is_of_rank_6 : lives_of_rank 6 (promoted ∷ []) ≡ promoted ∷ []
it_is_of_rank_6 = refl

and_no_more_of_rank_3 : lives_of_rank 3 (promoted ∷ []) ≡ []
and_no_more_of_rank_3 = refl

-- its priority is a best effort flow's
the_priority : priority_of (BestEffort 3 0 0 0 0 0) ≡ Some 3
the_priority = refl

no_priority_of_a_polled_flow : priority_of (Polled 1000 0 0 0 0) ≡ None
no_priority_of_a_polled_flow = refl

-- polled flows are served before all priorities, and unsolicited ones in no rank
polled_ones_are_of_rank_8 : is_of_rank 8 (Polled 1000 0 0 0 0) ≡ true
polled_ones_are_of_rank_8 = refl

unsolicited_ones_are_of_no_rank : is_of_rank 0 (Unsolicited 32 1000 100 2) ≡ false
unsolicited_ones_are_of_no_rank = refl

-- of priority 3 there are both lives under SID 17
abbrev all : List PastLife
all = life true ∷ voice ∷ life false ∷ record (life false) { first = BestEffort 5 0 0 0 0 0 } ∷ []

both_are_of_rank_3 : lives_of_rank 3 all ≡ life true ∷ life false ∷ []
both_are_of_rank_3 = refl

six_requests_of_rank_3 : asks_among base (lives_of_rank 3 all) ≡ 6
six_requests_of_rank_3 = refl

their_grants : granted_among base (lives_of_rank 3 all) ≡ 300
their_grants = refl

one_of_them_waits : waiting_among base (lives_of_rank 3 all) ≡ 1
one_of_them_waits = refl

one_of_them_was_dropped : dropped_among base (lives_of_rank 3 all) ≡ 1
one_of_them_was_dropped = refl

their_delays : delays_in_all base (lives_of_rank 3 all) ≡ 56 ∷ 46 ∷ 56 ∷ 46 ∷ []
their_delays = refl
