-- The state of every legal history is possible.
use Rattle.std.proofs.Common.{◌≡◌, refl, ap, ℕ, ◌*◌, ◌<◌, ◌≤◌, List, [], ◌∷◌, map, length, cond, Some, arith}
use Rattle.std.specs.Prelude.{sum_by, count_by}
use Rattle.std.specs.List.{AllByRecursion}
use Rattle.std.proofs.lemmas.List.{length-map}
use Rattle.std.proofs.lemmas.List.Sums.{sum_by-cons}
use Rattle.minislots.specs.declared.config.Config.{Config}
use Rattle.minislots.specs.Config.{IsLawful}
use Rattle.sched_calls.specs.declared.reply.Entry.{Entry}
use Rattle.sched_calls.specs.declared.reply.TheConstants.{MAX_WHOLE_HISTORY}
use Rattle.sched_calls.specs.declared.state.FlowState.{FlowState}
use Rattle.sched_calls.specs.FlowSpec.{grants_of}
use Rattle.sched_calls.specs.Sids.{AscendBy}
use Rattle.flow_book.specs.Book.{Ascend}
use Rattle.flow_book.specs.Flows.{LiveFlow, flow_of}
use Rattle.flow_book.proofs.Lines.{count-cons}
use Rattle.periodic.specs.Placement.{Placed}
use Rattle.periodic.proofs.Joined.{all-weaker, all-both, all-map}
use Rattle.map_build.specs.Spots.{IsFlowSid}
use Rattle.channel_states.specs.Possible.{waits_from_before, waiting_from_before, IsPossibleReserve, NeverAscend}
use Rattle.channel_states.specs.Possible.{ArePossibleReserves, IsPossible}
use Rattle.channel_states.specs.PossibleFlow.{IsPossibleFlow}
use Rattle.sched_history.specs.declared.scheduler.reserves.Reserve.{Reserve}
use Rattle.sched_history.specs.ChannelState.{flow_state_in, reserve_state, state_of}
use Rattle.sched_history.specs.Facts.{IsWithinAsked}
use Rattle.sched_history.specs.History.{IsLegal}
use Rattle.sched_history.specs.Refusal.{most_bytes, interval_grants}
use Rattle.sched_history.specs.Reserves.{IsReserve}
use Rattle.sched_history.specs.Situation.{Situation, situation_of}
use Rattle.sched_history.specs.State.{IsSoundIn}
use Rattle.sched_history.proofs.situations.Places.{placed-grants}
use Rattle.sched_history.proofs.situations.Sound.{IsSoundIn-legal}
use Rattle.restart_laws.proofs.Alike.{IsSteadyFlow, IsSteady}
use Rattle.restart_laws.proofs.possible.Changes.{change-legal}
use Rattle.restart_laws.proofs.possible.Flows.{flows-legal}
use Rattle.restart_laws.proofs.possible.FlowStates.{told-before, flow-possible}
use Rattle.restart_laws.proofs.possible.Headers.{header-legal}
use Rattle.restart_laws.proofs.possible.Live.{IsPossibleLive}
use Rattle.restart_laws.proofs.possible.Places.{flow-place, stand-beside}
use Rattle.restart_laws.proofs.possible.Reserves.{NeverRise, GoesTo, AreInTurn, reserves-legal}
use Rattle.restart_laws.proofs.possible.Shown.{HoldBack, shown-legal}
use Rattle.restart_laws.proofs.possible.Since.{waits_before}
use Rattle.restart_laws.proofs.possible.Tables.{IsTable, table-legal}
use Rattle.restart_laws.proofs.possible.Times.{AreTimes, times-legal}
use Rattle.restart_laws.proofs.states.Legal.{IsSteady-legal}
use Rattle.restart_laws.proofs.tables.Carried.{found-each}

module _ (c : Config) (placed : List Placed) where
  -- states are in order where their flows are
  ascend-told : (flows : List LiveFlow) → Ascend flows → AscendBy (λ f. f.sid) (map (flow_state_in c placed) flows)
  ascend-told [] up = tt
  ascend-told (f ∷ flows) up =
      (all-map (λ s. f.sid < s.sid) (flow_state_in c placed) flows up.0, ascend-told flows up.1)

  -- have the same grants per interval
  grants-told : (flows : List LiveFlow)
      → sum_by (λ f. grants_of f.spec) (map (flow_state_in c placed) flows) ≡ interval_grants flows
  grants-told [] = refl
  grants-told (f ∷ flows) =
      omega (
        arith,
        grants-told flows,
        sum_by-cons (λ (g : LiveFlow). grants_of g.spec) f flows,
        sum_by-cons (λ (s : FlowState). grants_of s.spec) (flow_state_in c placed f)
            (map (flow_state_in c placed) flows),
      )

  -- and as many wait since before a minislot
  waiting-told : (slot : ℕ) (flows : List LiveFlow) → AllByRecursion IsWithinAsked flows
      → waiting_from_before slot (map (flow_state_in c placed) flows) ≡ count_by (waits_before slot) flows
  waiting-told slot [] within = refl
  waiting-told slot (f ∷ flows) within =
      omega (
        arith,
        waiting-told slot flows within.1,
        count-cons (waits_before slot) f flows,
        count-cons (waits_from_before slot) (flow_state_in c placed f) (map (flow_state_in c placed) flows),
        ap (λ b. cond {A = ℕ} b 1 0) (told-before c placed f within.0 slot),
      )

-- What is known of a live flow of a legal history
record IsSound (c : Config) (x : Situation) (f : LiveFlow) : Type 0 where
  live : flow_of f.sid x.flows ≡ Some f
  sid : IsFlowSid f.sid
  steady : IsSteadyFlow c x.next f
  possible : IsPossibleLive c x.next f
  asked : f.asked ≤ most_bytes * x.entries
  within : IsWithinAsked f

all-known : (c : Config) (x : Situation) (flows : List LiveFlow)
    → AllByRecursion (λ f. flow_of f.sid x.flows ≡ Some f) flows → AllByRecursion (λ f. IsFlowSid f.sid) flows
    → AllByRecursion (IsSteadyFlow c x.next) flows → AllByRecursion (IsPossibleLive c x.next) flows
    → AllByRecursion (λ f. f.asked ≤ most_bytes * x.entries) flows → AllByRecursion IsWithinAsked flows
    → AllByRecursion (IsSound c x) flows
all-known c x [] live sid steady possible asked within = tt
all-known c x (f ∷ flows) live sid steady possible asked within = (
  record {
    live = live.0;
    sid = sid.0;
    steady = steady.0;
    possible = possible.0;
    asked = asked.0;
    within = within.0;
  },
  all-known c x flows live.1 sid.1 steady.1 possible.1 asked.1 within.1,
)

-- Reserves in turn are told in turn
never-told : (rs : List Reserve) → NeverRise rs → NeverAscend (map reserve_state rs)
never-told [] order = tt
never-told (r ∷ rs) order =
    (all-map (λ s. s.maps ≤ r.maps) reserve_state rs order.0, never-told rs order.1)

reserve-possible : (c : Config) (r : Reserve) → IsReserve c r → GoesTo r → IsPossibleReserve c (reserve_state r)
reserve-possible c r is goes =
    record { sid = goes; some = is.some_slots; fits = omega (arith, is.some_slots, is.within); waits = is.young }

module _ (c : Config) (lawful : IsLawful c) (h : List Entry) (legal : IsLegal c h) where
  abbrev x : Situation
  x = situation_of c h

  sound : IsSoundIn c x
  sound = IsSoundIn-legal c h lawful legal

  steady : IsSteady c x
  steady = IsSteady-legal c h legal

  table : IsTable c x.placed
  table = table-legal c lawful h legal

  shown : HoldBack c x.ack x.flows
  shown = shown-legal c lawful h legal

  flows-possible : AllByRecursion (IsPossibleFlow c x.entries x.next) (map (flow_state_in c x.placed) x.flows)
  flows-possible =
      all-map (IsPossibleFlow c x.entries x.next) (flow_state_in c x.placed) x.flows
      (all-weaker (IsSound c x) (λ f. IsPossibleFlow c x.entries x.next (flow_state_in c x.placed f))
      (λ f is. flow-possible c x.placed f is.within x.entries x.next is.steady is.possible is.asked is.sid
      (flow-place c lawful x.flows x.placed steady.ascending sound.periodic table f is.live)) x.flows
      (all-known c x x.flows (found-each (λ f. f.sid) x.flows steady.ascending) sound.channel.sids steady.flows
      (flows-legal c lawful h legal) sound.bounded.asked sound.bounded.within))

  reserves-possible : ArePossibleReserves c (map reserve_state x.reserves)
  reserves-possible =
      let turn : AreInTurn x.reserves = reserves-legal c h legal in
      record {
        few = omega (arith, sound.few_waiting, length-map x.reserves reserve_state);
        each = all-map (IsPossibleReserve c) reserve_state x.reserves
            (all-both (IsReserve c) GoesTo (λ r. IsPossibleReserve c (reserve_state r)) (reserve-possible c) x.reserves
            sound.waiting turn.sids);
        in_order = never-told x.reserves turn.in_order;
      }

  -- a history of at most so many entries as a whole one may have leaves a possible state
  pub state-possible : length h ≤ MAX_WHOLE_HISTORY → IsPossible c (state_of c h)
  state-possible short =
      let times : AreTimes c x.next x.ack x.progress = times-legal c lawful h legal in
      record {
        entries = short;
        times = record {
          receivers = times.receivers;
          ack_least = shown.least;
          acknowledged = times.acknowledged;
          described = times.described;
          next_most = sound.bounded.next_most;
          next_aligned = sound.bounded.aligned;
        };
        header = header-legal c lawful h legal;
        change = change-legal c lawful h legal;
        sids = ascend-told c x.placed x.flows steady.ascending;
        limits = record {
          flows_most = omega (arith, sound.bounded.few, length-map x.flows (flow_state_in c x.placed));
          grants_most = omega (
            arith,
            grants-told c x.placed x.flows,
            placed-grants x.flows x.placed sound.periodic,
            table.sound.most,
          );
        };
        flows = flows-possible;
        places = stand-beside c lawful x.flows x.placed steady.ascending sound.periodic table;
        shown = omega (arith, shown.few, waiting-told c x.placed x.ack x.flows sound.bounded.within);
        reserves = reserves-possible;
      }
