-- What is wrong with a state that is not possible.
use Rattle.std.specs.Prelude.{◌≡◌, ◌⊎◌, ℕ, ◌≤◌, List, [], ◌∷◌, take, IfSome}
use Rattle.std.specs.List.{AllByRecursion}
use Rattle.minislots.specs.declared.config.Config.{Config}
use Rattle.sched_calls.specs.declared.reply.TheConstants.{MAX_WHOLE_HISTORY}
use Rattle.sched_calls.specs.declared.state.ChannelState.{ChannelState}
use Rattle.sched_calls.specs.declared.state.FlowState.{FlowState}
use Rattle.sched_calls.specs.Sids.{AscendBy}
use Rattle.channel_states.specs.declared.fault.StateFault.{StateFault}
use Rattle.channel_states.specs.declared.fault.StateFault.TheVariants.{Entries, Times, Header, Change, Sids, Limits}
use Rattle.channel_states.specs.declared.fault.StateFault.TheVariants.{Flow, Places, Waiting, Reserves}
use Rattle.channel_states.specs.PossibleFlow.{IsPossibleFlow}
use Rattle.channel_states.specs.PossiblePlaces.{StandBeside}
use Rattle.channel_states.specs.Possible.{HasPossibleTimes, IsPossibleHeader, IsPossibleChange, KeepLimits}
use Rattle.channel_states.specs.Possible.{waiting_from_before, ArePossibleReserves}

-- what does not hold of a state that has this fault
abbrev pub IsWithout : Config → ChannelState → StateFault → Type 0
IsWithout c s Entries = s.entries ≤ MAX_WHOLE_HISTORY
IsWithout c s Times = HasPossibleTimes c s
IsWithout c s Header = IsPossibleHeader s.header
IsWithout c s Change = IfSome s.change (IsPossibleChange c s.next)
IsWithout c s Sids = AscendBy (λ f. f.sid) s.flows
IsWithout c s Limits = KeepLimits c s.flows
IsWithout c s (Flow sid) = AllByRecursion (IsPossibleFlow c s.entries s.next) s.flows
IsWithout c s Places = StandBeside c s.flows
IsWithout c s Waiting = waiting_from_before s.ack s.flows ≤ c.pending
IsWithout c s Reserves = ArePossibleReserves c s.reserves

-- the faults in the order of their tests, that of a flow whatever its SID
abbrev pub faults : List StateFault
faults = Entries ∷ Times ∷ Header ∷ Change ∷ Sids ∷ Limits ∷ Flow 0 ∷ Places ∷ Waiting ∷ Reserves ∷ []

-- how many of them are tested before this one
abbrev pub count_before : StateFault → ℕ
count_before Entries = 0
count_before Times = 1
count_before Header = 2
count_before Change = 3
count_before Sids = 4
count_before Limits = 5
count_before (Flow sid) = 6
count_before Places = 7
count_before Waiting = 8
count_before Reserves = 9

-- the first of some flows that is not so has this SID
abbrev pub IsFirstWrong : (FlowState → Type 0) → ℕ → List FlowState → Type 0
IsFirstWrong P sid [] = ⊥
IsFirstWrong P sid (f ∷ flows) = ((P f → ⊥) × (f.sid ≡ sid)) ⊎ (P f × IsFirstWrong P sid flows)

-- where a fault names a flow, that is the first that is wrong
abbrev pub NamesFlow : Config → ChannelState → StateFault → Type 0
NamesFlow c s (Flow sid) = IsFirstWrong (IsPossibleFlow c s.entries s.next) sid s.flows
NamesFlow c s fault = Unit {0}

-- A state has this fault, and none of those before it
pub record IsFirstFault (c : Config) (s : ChannelState) (fault : StateFault) : Type 0 where
  pub wrong : IsWithout c s fault → ⊥
  pub before : AllByRecursion (IsWithout c s) (take (count_before fault) faults)
  pub named : NamesFlow c s fault
