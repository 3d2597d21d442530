-- States whose numbers fit the types of their fields.
use Rattle.std.specs.Prelude.{◌<◌, ◌^◌, ℕ, Option, Some, None}
use Rattle.std.specs.List.{AllByRecursion}
use Rattle.sched_calls.specs.declared.opportunity.Header.{Header}
use Rattle.sched_calls.specs.declared.opportunity.Usage.{Usage}
use Rattle.sched_calls.specs.declared.opportunity.Usage.TheVariants.{Initial, InitialTo, Station, Request, Quiet}
use Rattle.sched_calls.specs.declared.opportunity.Usage.TheVariants.{DataTo}
use Rattle.sched_calls.specs.declared.state.BatchState.{BatchState}
use Rattle.sched_calls.specs.declared.state.ChannelState.{ChannelState}
use Rattle.sched_calls.specs.declared.state.FlowState.{FlowState}
use Rattle.sched_calls.specs.declared.state.PlaceState.{PlaceState}
use Rattle.sched_calls.specs.declared.state.ReserveState.{ReserveState}
use Rattle.history_writing.specs.Fits.{FlowFits}

-- a number that may be none fits 64 bits
abbrev pub MaybeFits : Option ℕ → Type 0
MaybeFits None = Unit {0}
MaybeFits (Some n) = n < 2 ^ 64

-- the numbers of a flow's batches fit their types, where there are any
abbrev pub BatchesFit : Option BatchState → Type 0
BatchesFit None = Unit {0}
BatchesFit (Some b) = (b.end < 2 ^ 64) × (b.first < 2 ^ 64) × MaybeFits b.second

-- the numbers of a flow's place fit their types, where it is placed
abbrev pub PlacedFits : Option PlaceState → Type 0
PlacedFits None = Unit {0}
PlacedFits (Some p) = (p.offset < 2 ^ 64) × (p.phase < 2 ^ 64) × AllByRecursion (λ start. start < 2 ^ 16) p.starts

-- the numbers of a live flow fit their types
pub record FlowStateFits (f : FlowState) : Type 0 where
  pub asked : f.asked < 2 ^ 64
  pub batches : BatchesFit f.batches
  pub spec : FlowFits f.spec
  pub granted : f.granted < 2 ^ 64
  pub last : MaybeFits f.last
  pub peak : MaybeFits f.peak
  pub place : PlacedFits f.place
  pub reserved : MaybeFits f.reserved
  pub sid : f.sid < 2 ^ 16
  pub sustained : MaybeFits f.sustained

-- the SID of a usage fits its type, where it has one
abbrev pub UsageFits : Usage → Type 0
UsageFits Initial = Unit {0}
UsageFits (InitialTo sid) = sid < 2 ^ 16
UsageFits (Station sid) = sid < 2 ^ 16
UsageFits (Request sid) = sid < 2 ^ 16
UsageFits Quiet = Unit {0}
UsageFits (DataTo sid) = sid < 2 ^ 16

-- the numbers of a Reserve fit their types
abbrev pub ReserveFits : ReserveState → Type 0
ReserveFits r = (r.maps < 2 ^ 8) × UsageFits r.opportunity.usage × (r.opportunity.slots < 2 ^ 16)

-- the numbers of a header fit their types
abbrev pub HeaderFits : Header → Type 0
HeaderFits h = (h.data_end < 2 ^ 8) × (h.data_start < 2 ^ 8) × (h.ranging_end < 2 ^ 8) × (h.ranging_start < 2 ^ 8)
    × (h.ucd_count < 2 ^ 8)

-- the numbers of a state fit their types
pub record StateFits (s : ChannelState) : Type 0 where
  pub ack : s.ack < 2 ^ 64
  pub change : MaybeFits s.change
  pub entries : s.entries < 2 ^ 64
  pub flows : AllByRecursion FlowStateFits s.flows
  pub header : HeaderFits s.header
  pub next : s.next < 2 ^ 64
  pub progress : AllByRecursion (λ slot. slot < 2 ^ 64) s.progress
  pub reserves : AllByRecursion ReserveFits s.reserves
  pub ucd_count : s.ucd_count < 2 ^ 8
