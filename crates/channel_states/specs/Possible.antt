-- Which states a scheduler of a channel may be in.
use Rattle.std.specs.Prelude.{◌≡◌, ℕ, ◌+◌, ◌%◌, ◌^◌, ◌<◌, ◌≤◌, Bool, true, false, ◌&&◌, ◌||◌, nat_lt, nat_le, ◌==◌}
use Rattle.std.specs.Prelude.{List, [], ◌∷◌, length, sum_by, count_by, IfSome, min, unwrap_or}
use Rattle.std.specs.List.{AllByRecursion}
use Rattle.std.specs.Option.{option_map_or}
use Rattle.minislots.specs.declared.config.Config.{Config}
use Rattle.sched_calls.specs.declared.call.TheConstants.{MAX_RESERVES}
use Rattle.sched_calls.specs.declared.opportunity.Header.{Header}
use Rattle.sched_calls.specs.declared.opportunity.Usage.{Usage}
use Rattle.sched_calls.specs.declared.opportunity.Usage.TheVariants.{Initial, InitialTo, Station, Request}
use Rattle.sched_calls.specs.declared.opportunity.Usage.TheVariants.{Quiet, DataTo}
use Rattle.sched_calls.specs.declared.reply.TheConstants.{MAX_WHOLE_HISTORY}
use Rattle.sched_calls.specs.declared.state.ChannelState.{ChannelState}
use Rattle.sched_calls.specs.declared.state.FlowState.{FlowState}
use Rattle.sched_calls.specs.declared.state.ReserveState.{ReserveState}
use Rattle.sched_calls.specs.FlowSpec.{grants_of}
use Rattle.sched_calls.specs.Sids.{AscendBy}
use Rattle.channel_states.specs.PossibleFlow.{IsPossibleFlow}
use Rattle.channel_states.specs.PossiblePlaces.{StandBeside}

-- The channel's time. The last acknowledge time is not before the channel's start, no receiver's progress is before
-- that, and none is behind the start of the next frame, which is a whole frame that a clock of at most 2^60 can reach
pub record HasPossibleTimes (c : Config) (s : ChannelState) : Type 0 where
  pub receivers : length s.progress ≡ c.receivers
  pub ack_least : c.start ≤ s.ack
  pub acknowledged : AllByRecursion (λ slot. s.ack ≤ slot) s.progress
  pub described : AllByRecursion (λ slot. slot ≤ s.next) s.progress
  pub next_most : s.next ≤ 2 ^ 60 + 4096
  pub next_aligned : s.next % c.frame ≡ 0

-- No exponent of a backoff window is above 15
pub record IsPossibleHeader (h : Header) : Type 0 where
  pub ranging_start : h.ranging_start ≤ 15
  pub ranging_end : h.ranging_end ≤ 15
  pub data_start : h.data_start ≤ 15
  pub data_end : h.data_end ≤ 15

-- The last MAP that changed the UCD count started at a whole frame, from the channel's start to the last one that may
-- be described
pub record IsPossibleChange (c : Config) (next change : ℕ) : Type 0 where
  pub aligned : change % c.frame ≡ 0
  pub least : c.start ≤ change
  pub most : change + c.frame ≤ next

-- At most as many flows are live as the configuration has it, and they have at most so many grants per interval
pub record KeepLimits (c : Config) (flows : List FlowState) : Type 0 where
  pub flows_most : length flows ≤ c.flows
  pub grants_most : sum_by (λ f. grants_of f.spec) flows ≤ c.periodic

-- a flow waits, and the least minislot in which a request of its batches was heard is below this one
abbrev pub waits_from_before : ℕ → FlowState → Bool
waits_from_before slot f = option_map_or (λ b. nat_lt (min b.first (unwrap_or b.second b.first)) slot) f.batches false

-- how many flows do
abbrev pub waiting_from_before : ℕ → List FlowState → ℕ
waiting_from_before slot flows = count_by (waits_from_before slot) flows

-- whether a flow may have this SID
abbrev pub is_sid_of_flow : ℕ → Bool
is_sid_of_flow sid = nat_le 1 sid && nat_le sid 8191

-- whether an opportunity of this usage goes to an SID that it may go to: requests may come from a modem, from those
-- with traffic of some priorities, and from all modems
abbrev pub has_sid : Usage → Bool
has_sid Initial = true
has_sid (InitialTo sid) = is_sid_of_flow sid
has_sid (Station sid) = is_sid_of_flow sid
has_sid (Request sid) = is_sid_of_flow sid || (nat_le 15873 sid && nat_le sid 16127) || sid == 16383
has_sid Quiet = true
has_sid (DataTo sid) = is_sid_of_flow sid

-- A Reserve that may wait: it asks for what may be asked for, in some minislots that fit behind the request region, and
-- fewer MAPs came since than let it lapse
pub record IsPossibleReserve (c : Config) (r : ReserveState) : Type 0 where
  pub sid : has_sid r.opportunity.usage ≡ true
  pub some : 0 < r.opportunity.slots
  pub fits : r.opportunity.slots + c.req_slots ≤ c.frame
  pub waits : r.maps < 64

-- after no Reserve stands one that saw more MAPs
abbrev pub NeverAscend : List ReserveState → Type 0
NeverAscend [] = Unit {0}
NeverAscend (r ∷ rs) = AllByRecursion (λ later. later.maps ≤ r.maps) rs × NeverAscend rs

-- The Reserves that wait, in the order in which they were accepted
pub record ArePossibleReserves (c : Config) (rs : List ReserveState) : Type 0 where
  pub few : length rs ≤ MAX_RESERVES
  pub each : AllByRecursion (IsPossibleReserve c) rs
  pub in_order : NeverAscend rs

-- A state is possible under a configuration
pub record IsPossible (c : Config) (s : ChannelState) : Type 0 where
  pub entries : s.entries ≤ MAX_WHOLE_HISTORY
  pub times : HasPossibleTimes c s
  pub header : IsPossibleHeader s.header
  pub change : IfSome s.change (IsPossibleChange c s.next)
  -- the live flows: in order of SID, within the limits, and each may be as it is
  pub sids : AscendBy (λ f. f.sid) s.flows
  pub limits : KeepLimits c s.flows
  pub flows : AllByRecursion (IsPossibleFlow c s.entries s.next) s.flows
  -- their places stand beside one another
  pub places : StandBeside c s.flows
  -- the acknowledge time is held back by no more flows than a MAP shows
  pub shown : waiting_from_before s.ack s.flows ≤ c.pending
  pub reserves : ArePossibleReserves c s.reserves
