-- What a step does to a situation, with what is known of its call.
use Rattle.std.proofs.Common.{◌≡◌, ℕ, ◌+◌, ◌<◌, ◌≤◌, true, false}
use Rattle.std.proofs.Common.{List, set, slice_index, Some}
use Rattle.std.specs.Prelude.{IsSomeAnd}
use Rattle.minislots.specs.declared.config.Config.{Config}
use Rattle.sched_calls.specs.declared.spec.FlowSpec.{FlowSpec}
use Rattle.sched_calls.specs.FlowSpec.{is_periodic, has_place_of}
use Rattle.sched_calls.specs.declared.opportunity.Header.{Header}
use Rattle.sched_calls.specs.declared.opportunity.Usage.{Usage}
use Rattle.sched_calls.specs.declared.placement.Placement.{Placement}
use Rattle.flow_book.specs.Flows.{LiveFlow}
use Rattle.flow_book.specs.Book.{new_flow, with_flow, without, changed, with_asked, with_replaced, with_spec}
use Rattle.flow_book.specs.Shown.{ack_of}
use Rattle.periodic.specs.Placement.{Placed, IsPlacement, IsToldFrom}
use Rattle.periodic.specs.Table.{placed_at, with_placed, without as without_placed, with_rest}
use Rattle.map_build.specs.declared.purpose.Allocation.{Allocation}
use Rattle.map_build.specs.Plan.{flows_after, IsPlan}
use Rattle.map_build.specs.FrameMap.{elements_of}
use Rattle.channel_states.specs.Possible.{IsPossibleHeader}
use Rattle.sched_history.specs.declared.scheduler.reserves.Reserve.{Reserve}
use Rattle.sched_history.specs.declared.scheduler.settling.Settling.{Settling}
use Rattle.sched_history.specs.Life.{Admission}
use Rattle.sched_history.specs.Time.{least}
use Rattle.sched_history.specs.Reserves.{reserves_with, reserves_past}
use Rattle.sched_history.specs.Settling.{settling_with}
use Rattle.sched_history.specs.Situation.{Situation, given_of, settles_in, spots_next}
use Rattle.sched_history.specs.History.{demand_in}
use Rattle.sched_history.proofs.steps.Passed.{AdmitsFlow, ChangesFlow, MayRest, MayWake, MayReserve}

-- A request that may be accepted was heard by a receiver, in a frame that was described, after all that it handed in
pub record IsHeard (c : Config) (x : Situation) (receiver heard : ℕ) : Type 0 where
  pub received : receiver < c.receivers
  pub unacked : slice_index x.progress receiver ≤ heard
  pub described : heard < x.next

-- A receiver may hand in what it heard up to here
pub record GoesForward (c : Config) (x : Situation) (receiver upto : ℕ) : Type 0 where
  pub received : receiver < c.receivers
  pub forwards : slice_index x.progress receiver ≤ upto
  pub described : upto ≤ x.next

-- what a step does
pub data Effect (c : Config) (x : Situation) : Type 0 where
  Nothing : Effect c x
  Begun : (sid : ℕ) (spec : FlowSpec) → AdmitsFlow c x sid spec → Effect c x
  Placed_first : (sid : ℕ) (spec : FlowSpec) (p : Placement) → AdmitsFlow c x sid spec → is_periodic spec ≡ true
      → IsPlacement c x.placed spec x.next p → Effect c x
  Ended : (sid : ℕ) → Effect c x
  Asked : (receiver sid bytes heard : ℕ) → IsHeard c x receiver heard → 0 < bytes → Effect c x
  Replaced : (receiver sid bytes heard : ℕ) → IsHeard c x receiver heard → Effect c x
  Changed : (sid : ℕ) (spec : FlowSpec) → ChangesFlow c x sid spec → Effect c x
  Placed_anew : (sid : ℕ) (spec : FlowSpec) (p : Placement) → ChangesFlow c x sid spec → is_periodic spec ≡ true
      → IsPlacement c (without_placed sid x.placed) spec x.next p → Effect c x
  Kept_place : (sid : ℕ) (spec : FlowSpec) (p : Placement) (given : Admission) → given_of sid x ≡ Some given
      → ChangesFlow c x sid spec → has_place_of given.spec spec ≡ true
      → IsSomeAnd given.placement (λ stands. IsToldFrom c spec x.next stands p) → Effect c x
  Rested : (sid : ℕ) → MayRest c x sid → Effect c x
  Woken : (sid : ℕ) → MayWake x sid → Effect c x
  Handed_in : (receiver upto : ℕ) → GoesForward c x receiver upto → Effect c x
  Described : (plan : List Allocation) → IsPlan c (demand_in c x) plan → Effect c x
  Skipped : (start : ℕ) → x.next ≤ start → Effect c x
  Accepted : (usage : Usage) (slots : ℕ) → MayReserve c x usage slots → Effect c x
  Headed : (header : Header) → IsPossibleHeader header → Effect c x

module _ (c : Config) (x : Situation) where
  -- the live flows that it leaves
  abbrev pub flows_left : Effect c x → List LiveFlow
  flows_left (Begun sid spec may) = with_flow (new_flow sid spec) x.flows
  flows_left (Placed_first sid spec p may periodic lawful) = with_flow (new_flow sid spec) x.flows
  flows_left (Ended sid) = without sid x.flows
  flows_left (Asked receiver sid bytes heard may some) = changed sid (with_asked bytes heard) x.flows
  flows_left (Replaced receiver sid bytes heard may) = changed sid (with_replaced bytes heard) x.flows
  flows_left (Changed sid spec may) = changed sid (with_spec spec) x.flows
  flows_left (Placed_anew sid spec p may periodic lawful) = changed sid (with_spec spec) x.flows
  flows_left (Kept_place sid spec p given is may same told) = changed sid (with_spec spec) x.flows
  flows_left (Described plan is) = flows_after c x.next plan x.flows
  flows_left effect = x.flows

  -- the placed ones
  abbrev pub placed_left : Effect c x → List Placed
  placed_left (Placed_first sid spec p may periodic lawful) = with_placed (placed_at sid spec p) x.placed
  placed_left (Ended sid) = without_placed sid x.placed
  placed_left (Changed sid spec may) = without_placed sid x.placed
  placed_left (Placed_anew sid spec p may periodic lawful) =
      with_placed (placed_at sid spec p) (without_placed sid x.placed)
  placed_left (Kept_place sid spec p given is may same told) =
      with_placed (placed_at sid spec p) (without_placed sid x.placed)
  placed_left (Rested sid may) = with_rest sid true x.placed
  placed_left (Woken sid may) = with_rest sid false x.placed
  placed_left effect = x.placed

  -- where the next frame starts
  abbrev pub next_left : Effect c x → ℕ
  next_left (Described plan is) = x.next + c.frame
  next_left (Skipped start later) = start
  next_left effect = x.next

  -- how far the receivers have handed in what they heard
  abbrev pub progress_left : Effect c x → List ℕ
  progress_left (Handed_in receiver upto may) = set x.progress receiver upto
  progress_left effect = x.progress

  -- the Reserves that wait
  abbrev pub reserves_left : Effect c x → List Reserve
  reserves_left (Accepted usage slots may) = reserves_with (Some (record { usage = usage; slots = slots })) x.reserves
  reserves_left (Described plan is) =
      reserves_past c (settles_in c x) (spots_next c x) (elements_of c (demand_in c x) plan) x.reserves
  reserves_left effect = x.reserves

  -- the header of the next MAP
  abbrev pub header_left : Effect c x → Header
  header_left (Headed header may) = header
  header_left effect = x.header

  -- what that settles by
  abbrev pub settling_left : Effect c x → Settling
  settling_left (Described plan is) = settling_with x.header.ucd_count x.next x.settling
  settling_left effect = x.settling

  -- the acknowledge time of the last MAP
  abbrev pub ack_left : Effect c x → ℕ
  ack_left (Described plan is) = ack_of c.pending (least x.progress) (flows_after c x.next plan x.flows)
  ack_left effect = x.ack

  -- what it leaves
  abbrev pub left : Effect c x → Situation
  left effect = record {
    entries = x.entries + 1;
    flows = flows_left effect;
    placed = placed_left effect;
    next = next_left effect;
    progress = progress_left effect;
    reserves = reserves_left effect;
    header = header_left effect;
    settling = settling_left effect;
    ack = ack_left effect;
  }

  -- A situation is what one of these leaves
  pub record IsLeft (y : Situation) : Type 0 where
    pub effect : Effect c x
    pub is : y ≡ left effect
