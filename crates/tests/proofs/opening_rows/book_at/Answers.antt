-- What a book needs of the flows of a state is so of those of a possible one.
use Rattle.std.proofs.Common.{◌≡◌, ℕ, ◌<◌, Option, None, Some, List, [], ◌∷◌, map, sym, ◌∙◌, false, is_some, arith}
use Rattle.std.specs.Prelude.{IfNone, MatchOption}
use Rattle.std.specs.List.{AllByRecursion}
use Rattle.minislots.specs.declared.config.Config.{Config}
use Rattle.sched_calls.specs.declared.state.ChannelState.{ChannelState}
use Rattle.sched_calls.specs.declared.state.FlowState.{FlowState}
use Rattle.sched_calls.specs.FlowSpec.{rate_of, burst_of, peak_of, reserved_of, reserved_burst_of}
use Rattle.sched_calls.specs.declared.spec.TheConstants.{PEAK_BURST}
use Rattle.flow_book.specs.Flows.{HaveStartedBy}
use Rattle.flow_book.specs.Carried.{carried_flow, carried_grants, MayBeCarried, MayHaveLevel}
use Rattle.flow_book.specs.Choice.{HasStartedBy}
use Rattle.channel_states.specs.declared.fault.StateFault.{StateFault}
use Rattle.channel_states.specs.Possible.{IsPossible}
use Rattle.channel_states.specs.PossibleFlow.{IsPossibleFlow, IsDescribed, HasPossibleLevel}
use Rattle.tests.proofs.opening_rows.book_at.Goals as goal

no-fault : (P : Type 0) (fault : Option StateFault) → is_some fault ≡ false → IfNone fault P → P
no-fault P None is so = so
no-fault P (Some fault) is so = absurd (cc)

none-granted : (c : Config) (next granted : ℕ) (last : Option ℕ)
    → MatchOption last (granted ≡ 0) (λ start. (0 < granted) × IsDescribed c next start) → IfNone last (granted ≡ 0)
none-granted c next granted None is = is
none-granted c next granted (Some start) is = tt

has-level : (rate burst : ℕ) (last level : Option ℕ) → HasPossibleLevel rate burst last level
    → MayHaveLevel rate burst level
has-level rate burst last None is = is
has-level rate burst last (Some units) is = (is.0, is.1.most)

has-started : (c : Config) (next granted : ℕ) (last : Option ℕ)
    → MatchOption last (granted ≡ 0) (λ start. (0 < granted) × IsDescribed c next start)
    → HaveStartedBy next (carried_grants last granted)
has-started c next granted None is = tt
has-started c next granted (Some start) is = (omega (arith, is.1.1), tt)

-- a possible flow may be carried
may-be-carried : (c : Config) (entries next : ℕ) (f : FlowState) → IsPossibleFlow c entries next f → MayBeCarried f
may-be-carried c entries next f is = record {
  within = is.bytes.within_asked;
  none = none-granted c next f.granted f.last is.last;
  sustained = has-level (rate_of f.spec) (burst_of f.spec) f.last f.sustained is.levels.sustained;
  peak = has-level (peak_of f.spec) PEAK_BURST f.last f.peak is.levels.peak;
  reserved = has-level (reserved_of f.spec) (reserved_burst_of f.spec) f.last f.reserved is.levels.reserved;
}

each-carried : (c : Config) (entries next : ℕ) (flows : List FlowState)
    → AllByRecursion (IsPossibleFlow c entries next) flows → AllByRecursion MayBeCarried flows
each-carried c entries next [] all = tt
each-carried c entries next (f ∷ flows) all =
    (may-be-carried c entries next f all.0, each-carried c entries next flows all.1)

-- and its carried grant starts before the next frame
each-started : (c : Config) (entries next : ℕ) (flows : List FlowState)
    → AllByRecursion (IsPossibleFlow c entries next) flows → AllByRecursion (HasStartedBy next) (map carried_flow flows)
each-started c entries next [] all = tt
each-started c entries next (f ∷ flows) all =
    (has-started c next f.granted f.last all.0.last, each-started c entries next flows all.1)

is-possible : (c : Config) (s : ChannelState) (fault : Option StateFault) → is_some fault ≡ false
    → IfNone fault (IsPossible c s) → IsPossible c s
is-possible c s fault is so = no-fault (IsPossible c s) fault is so

pub open_at-requires-clause-each : goal.open_at-requires-clause-each
open_at-requires-clause-each c =
    let possible = is-possible c.in_ok-config.config c.args.state.now c.fault_of.result
    (sym c.is_some.ensures ∙ c.if-is_some.false) c.fault_of.ensures.possible in
    rw c.as_slice.ensures (each-carried c.in_ok-config.config c.args.state.now.entries c.args.state.now.next
    c.args.state.now.flows possible.flows)

pub returns : goal.returns
returns c =
    let possible = is-possible c.in_ok-config.config c.args.state.now c.fault_of.result
    (sym c.is_some.ensures ∙ c.if-is_some.false) c.fault_of.ensures.possible in
    rw c.in_ok-open_at.ensures.flows (rw c.as_slice.ensures (each-started c.in_ok-config.config
    c.args.state.now.entries c.args.state.now.next c.args.state.now.flows possible.flows))
