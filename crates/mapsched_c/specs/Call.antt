-- A call in plain numbers. An opportunity has its usage where an admission has its kind of flow, and its minislots
-- where an unsolicited flow has its size, as a request that asks for minislots has them; a header has its UCD count and
-- the exponents of the windows of ranging where others have a receiver, a priority and grants.
use Rattle.std.specs.Prelude.{ℕ, ◌==◌, Option, None, Some, option_map, if◌then◌else◌}
use Rattle.sched_calls.specs.declared.amount.Amount.{Amount}
use Rattle.sched_calls.specs.declared.amount.Amount.TheVariants.{Bytes, Slots}
use Rattle.sched_calls.specs.declared.spec.FlowSpec.{FlowSpec}
use Rattle.sched_calls.specs.declared.spec.FlowSpec.TheVariants.{Unsolicited, Polled, BestEffort}
use Rattle.sched_calls.specs.declared.opportunity.Header.{Header}
use Rattle.sched_calls.specs.declared.opportunity.Usage.{Usage}
use Rattle.sched_calls.specs.declared.opportunity.Usage.TheVariants.{Initial, InitialTo, Station}
use Rattle.sched_calls.specs.declared.opportunity.Usage.TheVariants.{Request, Quiet, DataTo}
use Rattle.sched_calls.specs.declared.call.Call.{Call}
use Rattle.sched_calls.specs.declared.call.Call.TheVariants as calls
use Rattle.sched_calls.specs.declared.call.Call.TheVariants.{Admit, Remove, Ask, Heard, Build, Skip, Status, Reserve}
use Rattle.sched_calls.specs.declared.call.Call.TheVariants.{Replace, Change, Rest, Wake}
use Rattle.mapsched_c.specs.declared.call.PlainCall.{PlainCall}
use Rattle.mapsched_c.specs.declared.call.kind.TheConstants.{ADMIT, REMOVE, ASK, HEARD, BUILD, SKIP, STATUS}
use Rattle.mapsched_c.specs.declared.call.kind.TheConstants.{RESERVE, HEADER, REPLACE, CHANGE, REST, WAKE}
use Rattle.mapsched_c.specs.declared.call.flow.TheConstants.{UNSOLICITED, POLLED, BEST_EFFORT}
use Rattle.mapsched_c.specs.declared.call.usage.TheConstants.{INITIAL, STATION, INITIAL_TO, REQUEST, QUIET, DATA}

-- the flow of these numbers, where there is such a kind
abbrev pub flow_of : PlainCall → Option FlowSpec
flow_of c = if c.flow == UNSOLICITED then Some (Unsolicited c.size c.interval_us c.jitter_us c.grants)
    else if c.flow == POLLED then Some (Polled c.interval_us c.jitter_us c.rate c.burst c.peak)
    else if c.flow == BEST_EFFORT then Some (BestEffort c.priority c.rate c.burst c.peak c.reserved c.reserved_burst)
    else None

-- what the opportunity of these numbers is used for, where there is such a usage
abbrev pub usage_of : PlainCall → Option Usage
usage_of c = if c.flow == INITIAL then Some Initial
    else if c.flow == STATION then Some (Station c.sid)
    else if c.flow == INITIAL_TO then Some (InitialTo c.sid)
    else if c.flow == REQUEST then Some (Request c.sid)
    else if c.flow == QUIET then Some Quiet
    else if c.flow == DATA then Some (DataTo c.sid)
    else None

-- how much the request of these numbers asks for: bytes, where the flag of minislots is 0
abbrev pub amount_of : PlainCall → Amount
amount_of c = if c.has_slots == 0 then Bytes c.bytes else Slots c.size

-- the header of these numbers
abbrev pub header_of : PlainCall → Header
header_of c = record {
  ucd_count = c.receiver;
  ranging_start = c.priority;
  ranging_end = c.grants;
  data_start = c.data_start;
  data_end = c.data_end;
}

-- the call of these numbers, where there is such a kind
abbrev pub call_of : PlainCall → Option Call
call_of c = if c.kind == ADMIT then option_map (Admit c.sid) (flow_of c)
    else if c.kind == REMOVE then Some (Remove c.sid)
    else if c.kind == ASK then Some (Ask c.receiver c.sid (amount_of c) c.minislot)
    else if c.kind == HEARD then Some (Heard c.receiver c.minislot)
    else if c.kind == BUILD then Some (Build c.minislot)
    else if c.kind == SKIP then Some (Skip c.minislot)
    else if c.kind == STATUS then Some (Status c.sid)
    else if c.kind == RESERVE then option_map (λ usage. Reserve usage c.size) (usage_of c)
    else if c.kind == HEADER then Some (calls.Header (header_of c))
    else if c.kind == REPLACE then Some (Replace c.receiver c.sid (amount_of c) c.minislot)
    else if c.kind == CHANGE then option_map (Change c.sid) (flow_of c)
    else if c.kind == REST then Some (Rest c.sid)
    else if c.kind == WAKE then Some (Wake c.sid)
    else None

-- all numbers 0
abbrev pub nothing_called : PlainCall
nothing_called = record {
  kind = 0;
  flow = 0;
  size = 0;
  interval_us = 0;
  jitter_us = 0;
  rate = 0;
  burst = 0;
  bytes = 0;
  minislot = 0;
  sid = 0;
  receiver = 0;
  priority = 0;
  grants = 0;
  data_start = 0;
  data_end = 0;
  has_slots = 0;
  peak = 0;
  reserved = 0;
  reserved_burst = 0;
}

-- the numbers of a flow
abbrev pub plain_flow : FlowSpec → PlainCall
plain_flow (Unsolicited size interval jitter grants) = record nothing_called {
  flow = UNSOLICITED;
  size = size;
  interval_us = interval;
  jitter_us = jitter;
  grants = grants;
}
plain_flow (Polled interval jitter rate burst peak) = record nothing_called {
  flow = POLLED;
  interval_us = interval;
  jitter_us = jitter;
  rate = rate;
  burst = burst;
  peak = peak;
}
plain_flow (BestEffort priority rate burst peak reserved reserved-burst) = record nothing_called {
  flow = BEST_EFFORT;
  priority = priority;
  rate = rate;
  burst = burst;
  peak = peak;
  reserved = reserved;
  reserved_burst = reserved-burst;
}

-- the numbers of what a request asks for
abbrev pub plain_amount : Amount → PlainCall
plain_amount (Bytes bytes) = record nothing_called { bytes = bytes }
plain_amount (Slots slots) = record nothing_called { size = slots; has_slots = 1 }

-- the numbers of a request of this kind
abbrev pub plain_request : ℕ → ℕ → ℕ → Amount → ℕ → PlainCall
plain_request kind receiver sid amount heard =
    record (plain_amount amount) { kind = kind; receiver = receiver; sid = sid; minislot = heard }

-- the numbers of what an opportunity is used for: the SID is 0 where it is for all modems or for none
abbrev pub plain_usage : Usage → PlainCall
plain_usage Initial = record nothing_called { flow = INITIAL }
plain_usage (Station sid) = record nothing_called { flow = STATION; sid = sid }
plain_usage (InitialTo sid) = record nothing_called { flow = INITIAL_TO; sid = sid }
plain_usage (Request sid) = record nothing_called { flow = REQUEST; sid = sid }
plain_usage Quiet = record nothing_called { flow = QUIET }
plain_usage (DataTo sid) = record nothing_called { flow = DATA; sid = sid }

-- the numbers of a call: those that its kind has not are 0
abbrev pub plain_call : Call → PlainCall
plain_call (Admit sid spec) = record (plain_flow spec) { kind = ADMIT; sid = sid }
plain_call (Remove sid) = record nothing_called { kind = REMOVE; sid = sid }
plain_call (Ask receiver sid amount heard) = plain_request ASK receiver sid amount heard
plain_call (Heard receiver upto) = record nothing_called { kind = HEARD; receiver = receiver; minislot = upto }
plain_call (Build now) = record nothing_called { kind = BUILD; minislot = now }
plain_call (Skip now) = record nothing_called { kind = SKIP; minislot = now }
plain_call (Status sid) = record nothing_called { kind = STATUS; sid = sid }
plain_call (Reserve usage slots) = record (plain_usage usage) { kind = RESERVE; size = slots }
plain_call (calls.Header header) = record nothing_called {
  kind = HEADER;
  receiver = header.ucd_count;
  priority = header.ranging_start;
  grants = header.ranging_end;
  data_start = header.data_start;
  data_end = header.data_end;
}
plain_call (Replace receiver sid amount heard) = plain_request REPLACE receiver sid amount heard
plain_call (Change sid spec) = record (plain_flow spec) { kind = CHANGE; sid = sid }
plain_call (Rest sid) = record nothing_called { kind = REST; sid = sid }
plain_call (Wake sid) = record nothing_called { kind = WAKE; sid = sid }
