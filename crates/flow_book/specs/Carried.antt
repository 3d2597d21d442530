-- A flow that a state tells: it carries one grant in the place of all that it was granted.
use Rattle.std.specs.Prelude.{◌≡◌, ℕ, ◌-◌, ◌*◌, ◌<◌, ◌≤◌, List, [], ◌∷◌, Option, None, Some, IfNone, MatchOption}
use Rattle.sched_calls.specs.FlowSpec.{rate_of, burst_of, peak_of, reserved_of, reserved_burst_of}
use Rattle.sched_calls.specs.declared.spec.TheConstants.{PEAK_BURST}
use Rattle.sched_calls.specs.declared.state.BatchState.{BatchState}
use Rattle.sched_calls.specs.declared.state.FlowState.{FlowState}
use Rattle.flow_book.specs.Batches.{no_batches}
use Rattle.flow_book.specs.declared.batches.Batches.{Batches}
use Rattle.flow_book.specs.declared.flow.Grant.{Grant}
use Rattle.flow_book.specs.Flows.{LiveFlow, Charge}

-- the carried grant of a flow: all that it was granted, at the start of its last grant. There is none where it had none
abbrev pub carried_grants : Option ℕ → ℕ → List Grant
carried_grants None granted = []
carried_grants (Some start) granted = record { start = start; bytes = granted } ∷ []

-- what the carried grant charges to a rate with this burst that has this level at its start: the part of the burst that
-- is spent then, in the place of the grant's bytes. A rate of 0 has no level
abbrev pub carried_charges : Option ℕ → ℕ → Option ℕ → List Charge
carried_charges None burst level = []
carried_charges (Some start) burst None = []
carried_charges (Some start) burst (Some level) = record { start = start; tokens = 1280000 * burst - level } ∷ []

-- the batches of the requests that wait
abbrev pub carried_batches : Option BatchState → Batches
carried_batches None = no_batches
carried_batches (Some b) = record { end = b.end; first = b.first; second = b.second }

-- a live flow with the carried grant alone
abbrev pub carried_flow : FlowState → LiveFlow
carried_flow f = record {
  sid = f.sid;
  spec = f.spec;
  asked = f.asked;
  batches = carried_batches f.batches;
  grants = carried_grants f.last f.granted;
  sustained = carried_charges f.last (burst_of f.spec) f.sustained;
  peak = carried_charges f.last PEAK_BURST f.peak;
  reserved = carried_charges f.last (reserved_burst_of f.spec) f.reserved;
}

-- a rate has a level exactly where it is above 0, and that is at most its burst
abbrev pub MayHaveLevel : ℕ → ℕ → Option ℕ → Type 0
MayHaveLevel rate burst level = MatchOption level (rate ≡ 0) (λ units. (0 < rate) × (units ≤ 1280000 * burst))

-- A book may go on with this flow: it was granted no more than it asked, and nothing where it had no grant, and its
-- rates have such levels
pub record MayBeCarried (f : FlowState) : Type 0 where
  pub within : f.granted ≤ f.asked
  pub none : IfNone f.last (f.granted ≡ 0)
  pub sustained : MayHaveLevel (rate_of f.spec) (burst_of f.spec) f.sustained
  pub peak : MayHaveLevel (peak_of f.spec) PEAK_BURST f.peak
  pub reserved : MayHaveLevel (reserved_of f.spec) (reserved_burst_of f.spec) f.reserved
