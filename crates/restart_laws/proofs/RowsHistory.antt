-- A worked history of one flow under a rate ceiling, which goes on from its state as it goes on itself.
use Rattle.std.proofs.Common.{◌≡◌, ◌≢◌, ℕ, List, [], ◌∷◌, None, Some, refl, sym, inr, lit<, lit≤, arith}
use Rattle.std.proofs.lemmas.Bool.{ne_eqb}
use Rattle.sched_calls.specs.declared.spec.FlowSpec.{FlowSpec}
use Rattle.sched_calls.specs.declared.spec.FlowSpec.TheVariants.{BestEffort}
use Rattle.sched_calls.specs.Header.{header_of}
use Rattle.sched_calls.proofs.Base.{base}
use Rattle.sched_calls.specs.declared.amount.Amount.TheVariants.{Bytes}
use Rattle.sched_calls.specs.declared.call.Call.TheVariants.{Admit, Ask, Build, Status}
use Rattle.sched_calls.specs.declared.reply.Reply.TheVariants.{Admitted, Taken, Built, Flow}
use Rattle.sched_calls.specs.declared.reply.Entry.{Entry}
use Rattle.sched_calls.specs.declared.state.ChannelState.{ChannelState}
use Rattle.map_build.specs.declared.purpose.Allocation.{Allocation}
use Rattle.map_build.specs.declared.purpose.Purpose.TheVariants.{DataGrant, Idle}
use Rattle.map_build.specs.Plan.{demand_at}
use Rattle.map_build.specs.FrameMap.{IsLawfulMap}
use Rattle.map_build.proofs.FlowsAfter.{allocation}
use Rattle.map_build.proofs.RowsMaps.{all_idle, none_waits}
use Rattle.map_build.proofs.RowsFirstGrant.{first_grant}
use Rattle.map_build.proofs.RowsCeiling.{second_grant, ceiling_map, waiting_map}
use Rattle.sched_history.specs.Life.{Life, life_of}
use Rattle.sched_history.specs.ChannelState.{state_of}
use Rattle.sched_history.proofs.lives.LiveFlows.{flows_of-one, table_of-unplaced_one}
use Rattle.sched_history.proofs.rows.TwoMaps.{entry, built}
use Rattle.restart_laws.specs.Restart.{StepFrom, LegalFrom}
use Rattle.restart_laws.proofs.RowsTaking.{resumed, emptied, a_flow_with_a_carried_grant_is_next}
use Rattle.restart_laws.proofs.RowsTaking.{the_grant_behind_a_carried_one_is_at_the_ceiling_to_the_byte}
use Rattle.restart_laws.proofs.RowsTaking.{the_quantum_comes_back_to_the_minislot}

-- 64000 bits in a second, and bursts of 1600 bytes
abbrev spec : FlowSpec
spec = BestEffort 3 64000 1600 0 0 0

-- its request, and the MAPs of its first two grants, of 544 bytes
abbrev since : List Entry
since = entry 2 (Ask 0 17 (Bytes 3000) 801) Taken ∷ entry 3 (Build 800) (Built first_grant)
    ∷ entry 4 (Build 840) (Built second_grant) ∷ []

-- the history
abbrev history : List Entry
history = built ∷ entry 1 (Admit 17 spec) (Admitted None) ∷ since

-- the state after so many entries, with the next frame there, of the flow that was granted so many bytes, the last at
-- this minislot, and has this level
abbrev left_with : ℕ → ℕ → ℕ → ℕ → ℕ → ChannelState
left_with entries next granted last level = record {
  entries = entries;
  next = next;
  progress = 800 ∷ [];
  ack = 800;
  header = header_of base;
  ucd_count = 1;
  change = None;
  flows = record {
    sid = 17;
    spec = spec;
    asked = 3000;
    granted = granted;
    last = Some last;
    sustained = Some level;
    peak = None;
    reserved = None;
    batches = Some (record { end = 3000; first = 801; second = None });
    place = None;
  } ∷ [];
  reserves = [];
}

-- its life
abbrev life : Life
life = record { admission = record { spec = spec; placement = None }; since = since }

others : (sid : ℕ) → sid ≢ 17 → life_of sid history ≡ None
others sid other = rw (ne_eqb 17 sid (λ e. other (sym e)))

-- the history has this state, with 520 bytes left of the burst at 884
pub a_history_has_its_state : state_of base history ≡ left_with 5 920 1088 884 665600000
a_history_has_its_state = rw (
  flows_of-one base history 17 life (lit≤ tt) (lit≤ tt) refl others,
  table_of-unplaced_one history 17 life refl refl others,
) refl

-- the frame with the grant of 528 bytes, and one minislot idle
abbrev third_grant : List Allocation
third_grant = allocation 4 35 (DataGrant 17 528) ∷ allocation 39 1 Idle ∷ []

-- its MAP is lawful for the flow with the carried grant
ceiling-lawful : IsLawfulMap base (demand_at (resumed ∷ []) [] [] 920) (header_of base) 800 ceiling_map
ceiling-lawful = (
  third_grant,
  record {
    each = (
      record {
        some_slots = lit< tt;
        follows = refl;
        purpose = (
          lit< tt,
          resumed,
          refl,
          a_flow_with_a_carried_grant_is_next,
          the_grant_behind_a_carried_one_is_at_the_ceiling_to_the_byte,
          refl,
        );
        first = (lit< tt, (none_waits _ _, tt));
      },
      (
        record {
          some_slots = lit< tt;
          follows = refl;
          purpose = refl;
          first = (lit< tt, (none_waits _ _, (inr ((λ e. absurd (omega (arith, e.takes.fits))), tt), tt)));
        },
        tt,
      ),
    );
    whole = λ _. refl;
    due = λ _. tt;
    quiet = λ on. absurd (cc);
  },
  refl,
)

-- and so is the MAP after it, in which it waits
waiting-lawful : IsLawfulMap base (demand_at (emptied ∷ []) [] [] 960) (header_of base) 800 waiting_map
waiting-lawful = (
  all_idle,
  record {
    each = (
      record {
        some_slots = lit< tt;
        follows = refl;
        purpose = refl;
        first = (lit< tt, (none_waits _ _, (inr (the_quantum_comes_back_to_the_minislot.0, tt), tt)));
      },
      tt,
    );
    whole = λ _. refl;
    due = λ _. tt;
    quiet = λ on. absurd (cc);
  },
  refl,
)

-- so the MAP with 528 bytes may follow the state, and leaves nothing of the burst
pub a_map_at_the_ceiling_may_follow_the_state :
    StepFrom base (left_with 5 920 1088 884 665600000) (Build 880) (Built ceiling_map) (left_with 6 960 1616 924 0)
a_map_at_the_ceiling_may_follow_the_state = record { step = (ceiling_map, ceiling-lawful, refl); leaves = refl }

-- and behind it the one in which it waits
pub a_map_that_idles_may_follow_the_next :
    StepFrom base (left_with 6 960 1616 924 0) (Build 920) (Built waiting_map) (left_with 7 1000 1616 924 0)
a_map_that_idles_may_follow_the_next = record { step = (waiting_map, waiting-lawful, refl); leaves = refl }

-- they are legal from the state, as they are behind the history
pub two_maps_are_legal_from_the_state : LegalFrom base (left_with 5 920 1088 884 665600000)
    (entry 5 (Build 880) (Built ceiling_map) ∷ entry 6 (Build 920) (Built waiting_map)
    ∷ entry 7 (Status 17) (Flow 3000 1616 1384) ∷ [])
two_maps_are_legal_from_the_state = (
  _,
  a_map_at_the_ceiling_may_follow_the_state,
  (_, a_map_that_idles_may_follow_the_next, (_, record { step = refl; leaves = refl }, tt)),
)
