-- The readers of a flow and of a call take the objects of their forms and no others.
use Rattle.std.proofs.Common.{◌≡◌, ℕ, ◌-◌, ◌^◌, true, is_some, codes, List, take, drop, Some, None, refl}
use Rattle.serde_json.specs.Data.{Data, null, object, number, unsigned, string, Members, put, no_members}
use Rattle.sched_calls.specs.declared.opportunity.Usage.TheVariants.{Initial, InitialTo, Station}
use Rattle.sched_calls.specs.declared.opportunity.Usage.TheVariants.{Request, Quiet, DataTo}
use Rattle.sched_calls.specs.declared.amount.Amount.TheVariants.{Bytes, Slots}
use Rattle.sched_calls.specs.declared.spec.FlowSpec.TheVariants.{Unsolicited, Polled, BestEffort}
use Rattle.sched_calls.specs.declared.call.Call.TheVariants.{Ask, Reserve, Replace, Change, Rest, Wake}
use Rattle.json_fields.specs.declared.forms.Sort.{Sort}
use Rattle.json_fields.specs.declared.forms.TheConstants.{CALLS, FLOWS}
use Rattle.json_fields.specs.Fields.{u8_or, u32_or, u8_at, u16_at, u32_at, u64_at, number_at, text_at}
use Rattle.json_fields.proofs.FormRows.{takes_forms, leaving_out}
use Rattle.call_reading.specs.Calls.{unsolicited_of, polled_of, best_effort_of, flow_of}
use Rattle.call_reading.specs.Calls.{admit_call, remove_call, amount_of, ask_call, heard_call, build_call, skip_call}
use Rattle.call_reading.specs.Calls.{status_call, usage_of, reserve_call, header_call, replace_call, change_call}
use Rattle.call_reading.specs.Calls.{rest_call, wake_call, call_of}

flows : takes_forms (λ d. is_some (flow_of d)) (λ sort. null) FLOWS ≡ true
unfolding flow_of unsolicited_of polled_of best_effort_of u8_or u32_or u8_at u32_at number_at text_at
flows = refl

-- a polled flow, and one of best effort, with these members
abbrev polled : Members → Data
polled members =
    object (put (codes "kind") (string (codes "polled")) (put (codes "interval_us") (number (unsigned 20000))
    (put (codes "jitter_us") (number (unsigned 2000)) (put (codes "rate") (number (unsigned 1))
    (put (codes "burst") (number (unsigned 2)) members)))))

abbrev best_effort : Members → Data
best_effort members =
    object (put (codes "kind") (string (codes "best_effort")) (put (codes "priority") (number (unsigned 7))
    (put (codes "rate") (number (unsigned 1)) (put (codes "burst") (number (unsigned 2)) members))))

-- one of unsolicited grants
abbrev unsolicited : Members → Data
unsolicited members =
    object (put (codes "kind") (string (codes "unsolicited")) (put (codes "size") (number (unsigned 232))
    (put (codes "interval_us") (number (unsigned 20000)) (put (codes "jitter_us") (number (unsigned 800)) members))))

-- what stands for a peak rate
abbrev peak : Data → Members
peak d = put (codes "peak") d no_members

a_polled_flow_with_a_peak : flow_of (polled (peak (number (unsigned (2 ^ 32 - 1)))))
    ≡ Some (Polled 20000 2000 1 2 (2 ^ 32 - 1))
unfolding flow_of polled_of u32_or u32_at number_at text_at
a_polled_flow_with_a_peak = refl

a_polled_flow_without_a_peak : flow_of (polled no_members) ≡ Some (Polled 20000 2000 1 2 0)
unfolding flow_of polled_of u32_or u32_at number_at text_at
a_polled_flow_without_a_peak = refl

a_polled_flow_with_too_great_a_peak : flow_of (polled (peak (number (unsigned (2 ^ 32))))) ≡ None
unfolding flow_of polled_of u32_or u32_at number_at text_at
a_polled_flow_with_too_great_a_peak = refl

a_flow_of_best_effort_with_a_peak : flow_of (best_effort (peak (number (unsigned 3)))) ≡ Some (BestEffort 7 1 2 3 0 0)
unfolding flow_of best_effort_of u32_or u8_at u32_at number_at text_at
a_flow_of_best_effort_with_a_peak = refl

a_flow_of_best_effort_with_a_peak_of_0 : flow_of (best_effort (peak (number (unsigned 0))))
    ≡ Some (BestEffort 7 1 2 0 0 0)
unfolding flow_of best_effort_of u32_or u8_at u32_at number_at text_at
a_flow_of_best_effort_with_a_peak_of_0 = refl

-- a null that stands there is no number, and does not stand for a missing one
a_flow_of_best_effort_with_another_value : flow_of (best_effort (peak null)) ≡ None
unfolding flow_of best_effort_of u32_or u8_at u32_at number_at text_at
a_flow_of_best_effort_with_another_value = refl

-- what stands for a reserved rate and for its burst
abbrev reserved : Data → Data → Members
reserved rate burst = put (codes "reserved") rate (put (codes "reserved_burst") burst no_members)

a_flow_of_best_effort_with_a_reserved_rate :
    flow_of (best_effort (reserved (number (unsigned 3)) (number (unsigned 4))))
    ≡ Some (BestEffort 7 1 2 0 3 4)
unfolding flow_of best_effort_of u32_or u8_at u32_at number_at text_at
a_flow_of_best_effort_with_a_reserved_rate = refl

-- each may be missing by itself
a_flow_of_best_effort_with_a_reserved_burst_alone :
    flow_of (best_effort (put (codes "reserved_burst") (number (unsigned 4)) no_members))
    ≡ Some (BestEffort 7 1 2 0 0 4)
unfolding flow_of best_effort_of u32_or u8_at u32_at number_at text_at
a_flow_of_best_effort_with_a_reserved_burst_alone = refl

a_flow_of_best_effort_with_too_great_a_reserved_burst :
    flow_of (best_effort (reserved (number (unsigned 3)) (number (unsigned (2 ^ 32))))) ≡ None
unfolding flow_of best_effort_of u32_or u8_at u32_at number_at text_at
a_flow_of_best_effort_with_too_great_a_reserved_burst = refl

-- both are keys that nobody reads beside another kind
a_polled_flow_beside_a_reserved_rate : flow_of (polled (reserved null null)) ≡ Some (Polled 20000 2000 1 2 0)
unfolding flow_of polled_of u32_or u32_at number_at text_at
a_polled_flow_beside_a_reserved_rate = refl

-- a peak rate is a key that nobody reads beside unsolicited grants
an_unsolicited_flow_beside_a_peak : flow_of (unsolicited (peak null)) ≡ Some (Unsolicited 232 20000 800 1)
unfolding flow_of unsolicited_of u8_or u8_at u32_at number_at text_at
an_unsolicited_flow_beside_a_peak = refl

-- a flow of best effort, whatever the sort
abbrev flow : Sort → Data
flow sort =
    object (put (codes "kind") (string (codes "best_effort")) (put (codes "priority") (number (unsigned 7))
    (put (codes "rate") (number (unsigned 0)) (put (codes "burst") (number (unsigned 0)) no_members))))

-- each call but a Reserve, whose SID stands beside some of its usages, a request with its bytes
calls : takes_forms (λ d. is_some (call_of d)) flow (leaving_out (codes "slots") (take 7 CALLS)) ≡ true
unfolding call_of admit_call remove_call amount_of ask_call heard_call build_call skip_call status_call flow_of
    unsolicited_of polled_of best_effort_of u8_or u32_or u8_at u16_at u32_at u64_at number_at text_at
calls = refl

-- a request with its minislots in their place
asks_in_minislots :
    takes_forms (λ d. is_some (call_of d)) flow (leaving_out (codes "bytes") (take 1 (drop 2 CALLS))) ≡ true
unfolding call_of amount_of ask_call u8_at u16_at u32_at u64_at number_at text_at
asks_in_minislots = refl

-- a request of this name, with these members
abbrev request : List ℕ → Members → Data
request name members = object (put (codes "call") (string name) (put (codes "receiver") (number (unsigned 1))
    (put (codes "sid") (number (unsigned 17)) (put (codes "heard") (number (unsigned 801)) members))))

-- one that adds to those before
abbrev ask : Members → Data
ask members = request (codes "ask") members

-- one that supersedes them
abbrev replace : Members → Data
replace members = request (codes "replace") members

-- a value under a key, and these members
abbrev with_bytes : Data → Members → Members
with_bytes d members = put (codes "bytes") d members

abbrev with_slots : Data → Members → Members
with_slots d members = put (codes "slots") d members

abbrev most : Data
most = number (unsigned (2 ^ 32 - 1))

a_request_for_bytes : call_of (ask (with_bytes most no_members)) ≡ Some (Ask 1 17 (Bytes (2 ^ 32 - 1)) 801)
unfolding call_of amount_of ask_call u8_at u16_at u32_at u64_at number_at text_at
a_request_for_bytes = refl

a_request_in_minislots : call_of (ask (with_slots most no_members)) ≡ Some (Ask 1 17 (Slots (2 ^ 32 - 1)) 801)
unfolding call_of amount_of ask_call u8_at u16_at u32_at u64_at number_at text_at
a_request_in_minislots = refl

a_request_for_both : call_of (ask (with_bytes most (with_slots most no_members))) ≡ None
unfolding call_of amount_of ask_call u8_at u16_at u32_at u64_at number_at text_at
a_request_for_both = refl

-- what stands under the other key stands there, whatever it is
a_request_for_bytes_beside_another_value : call_of (ask (with_bytes most (with_slots null no_members))) ≡ None
unfolding call_of amount_of ask_call u8_at u16_at u32_at u64_at number_at text_at
a_request_for_bytes_beside_another_value = refl

a_request_in_minislots_beside_another_value : call_of (ask (with_slots most (with_bytes null no_members))) ≡ None
unfolding call_of amount_of ask_call u8_at u16_at u32_at u64_at number_at text_at
a_request_in_minislots_beside_another_value = refl

a_request_for_another_value : call_of (ask (with_bytes null no_members)) ≡ None
unfolding call_of amount_of ask_call u8_at u16_at u32_at u64_at number_at text_at
a_request_for_another_value = refl

headers : takes_forms (λ d. is_some (call_of d)) flow (take 1 (drop 8 CALLS)) ≡ true
unfolding call_of header_call u8_at number_at text_at
headers = refl

-- a request that supersedes those before, with its bytes, a change, and a flow that rests and wakes
later_calls : takes_forms (λ d. is_some (call_of d)) flow (leaving_out (codes "slots") (drop 9 CALLS)) ≡ true
unfolding call_of replace_call change_call rest_call wake_call amount_of flow_of unsolicited_of polled_of best_effort_of
    u8_or u32_or u8_at u16_at u32_at u64_at number_at text_at
later_calls = refl

-- a request that supersedes those before, with its minislots in their place
replaces_in_minislots :
    takes_forms (λ d. is_some (call_of d)) flow (leaving_out (codes "bytes") (take 1 (drop 9 CALLS))) ≡ true
unfolding call_of amount_of replace_call u8_at u16_at u32_at u64_at number_at text_at
replaces_in_minislots = refl

nothing_left : call_of (replace (with_bytes (number (unsigned 0)) no_members)) ≡ Some (Replace 1 17 (Bytes 0) 801)
unfolding call_of amount_of replace_call u8_at u16_at u32_at u64_at number_at text_at
nothing_left = refl

minislots_left : call_of (replace (with_slots most no_members)) ≡ Some (Replace 1 17 (Slots (2 ^ 32 - 1)) 801)
unfolding call_of amount_of replace_call u8_at u16_at u32_at u64_at number_at text_at
minislots_left = refl

both_left : call_of (replace (with_bytes most (with_slots most no_members))) ≡ None
unfolding call_of amount_of replace_call u8_at u16_at u32_at u64_at number_at text_at
both_left = refl

neither_left : call_of (replace no_members) ≡ None
unfolding call_of amount_of replace_call u8_at u16_at u32_at u64_at number_at text_at
neither_left = refl

-- a call of this name with an SID, and these members behind
abbrev of_flow : List ℕ → ℕ → Members → Data
of_flow name n more = object (put (codes "call") (string name) (put (codes "sid") (number (unsigned n)) more))

a_change : (sort : Sort) → call_of (of_flow (codes "change") 17 (put (codes "flow") (flow sort) no_members))
    ≡ Some (Change 17 (BestEffort 7 0 0 0 0 0))
unfolding call_of change_call flow_of best_effort_of u32_or u8_at u16_at u32_at number_at text_at
a_change sort = refl

a_change_without_a_flow : call_of (of_flow (codes "change") 17 no_members) ≡ None
unfolding call_of change_call u16_at number_at text_at
a_change_without_a_flow = refl

a_rest : call_of (of_flow (codes "rest") (2 ^ 16 - 1) no_members) ≡ Some (Rest (2 ^ 16 - 1))
unfolding call_of rest_call u16_at number_at text_at
a_rest = refl

a_rest_of_another_sid : call_of (of_flow (codes "rest") (2 ^ 16) no_members) ≡ None
unfolding call_of rest_call u16_at number_at text_at
a_rest_of_another_sid = refl

a_wake : call_of (of_flow (codes "wake") 17 no_members) ≡ Some (Wake 17)
unfolding call_of wake_call u16_at number_at text_at
a_wake = refl

-- a Reserve with this usage and length, and these members behind
abbrev reserve : List ℕ → ℕ → Members → Data
reserve usage slots more = object (put (codes "call") (string (codes "reserve"))
    (put (codes "usage") (string usage) (put (codes "slots") (number (unsigned slots)) more)))

-- an SID
abbrev sid : ℕ → Members
sid n = put (codes "sid") (number (unsigned n)) no_members

a_reserve_for_all : call_of (reserve (codes "initial") (2 ^ 32 - 1) no_members) ≡ Some (Reserve Initial (2 ^ 32 - 1))
unfolding call_of reserve_call usage_of u16_at u32_at number_at text_at
a_reserve_for_all = refl

-- an SID beside it is a key that is not named
a_reserve_for_all_beside_an_sid : call_of (reserve (codes "initial") 8 (sid (2 ^ 16))) ≡ Some (Reserve Initial 8)
unfolding call_of reserve_call usage_of u16_at u32_at number_at text_at
a_reserve_for_all_beside_an_sid = refl

a_reserve_for_one : call_of (reserve (codes "station") 8 (sid (2 ^ 16 - 1)))
    ≡ Some (Reserve (Station (2 ^ 16 - 1)) 8)
unfolding call_of reserve_call usage_of u16_at u32_at number_at text_at
a_reserve_for_one = refl

a_reserve_for_one_without_an_sid : call_of (reserve (codes "station") 8 no_members) ≡ None
unfolding call_of reserve_call usage_of u16_at u32_at number_at text_at
a_reserve_for_one_without_an_sid = refl

a_reserve_for_one_with_another_sid : call_of (reserve (codes "station") 8 (sid (2 ^ 16))) ≡ None
unfolding call_of reserve_call usage_of u16_at u32_at number_at text_at
a_reserve_for_one_with_another_sid = refl

a_reserve_for_one_that_joins : call_of (reserve (codes "initial_to") 8 (sid 17)) ≡ Some (Reserve (InitialTo 17) 8)
unfolding call_of reserve_call usage_of u16_at u32_at number_at text_at
a_reserve_for_one_that_joins = refl

a_reserve_for_one_that_joins_without_an_sid : call_of (reserve (codes "initial_to") 8 no_members) ≡ None
unfolding call_of reserve_call usage_of u16_at u32_at number_at text_at
a_reserve_for_one_that_joins_without_an_sid = refl

a_reserve_for_requests : call_of (reserve (codes "request") 2 (sid 16127)) ≡ Some (Reserve (Request 16127) 2)
unfolding call_of reserve_call usage_of u16_at u32_at number_at text_at
a_reserve_for_requests = refl

a_reserve_for_requests_without_an_sid : call_of (reserve (codes "request") 2 no_members) ≡ None
unfolding call_of reserve_call usage_of u16_at u32_at number_at text_at
a_reserve_for_requests_without_an_sid = refl

a_reserve_for_nobody : call_of (reserve (codes "quiet") 8 no_members) ≡ Some (Reserve Quiet 8)
unfolding call_of reserve_call usage_of u16_at u32_at number_at text_at
a_reserve_for_nobody = refl

-- an SID beside it is a key that is not named
a_reserve_for_nobody_beside_an_sid : call_of (reserve (codes "quiet") 8 (sid (2 ^ 16))) ≡ Some (Reserve Quiet 8)
unfolding call_of reserve_call usage_of u16_at u32_at number_at text_at
a_reserve_for_nobody_beside_an_sid = refl

a_reserve_for_data : call_of (reserve (codes "data") 8 (sid (2 ^ 16 - 1))) ≡ Some (Reserve (DataTo (2 ^ 16 - 1)) 8)
unfolding call_of reserve_call usage_of u16_at u32_at number_at text_at
a_reserve_for_data = refl

a_reserve_for_data_with_another_sid : call_of (reserve (codes "data") 8 (sid (2 ^ 16))) ≡ None
unfolding call_of reserve_call usage_of u16_at u32_at number_at text_at
a_reserve_for_data_with_another_sid = refl

a_reserve_of_another_usage : call_of (reserve (codes "Initial") 8 no_members) ≡ None
unfolding call_of reserve_call usage_of u16_at u32_at number_at text_at
a_reserve_of_another_usage = refl

a_reserve_of_another_usage_with_an_sid : call_of (reserve (codes "Station") 8 (sid 17)) ≡ None
unfolding call_of reserve_call usage_of u16_at u32_at number_at text_at
a_reserve_of_another_usage_with_an_sid = refl

a_reserve_of_another_length : call_of (reserve (codes "initial") (2 ^ 32) no_members) ≡ None
unfolding call_of reserve_call usage_of u16_at u32_at number_at text_at
a_reserve_of_another_length = refl
