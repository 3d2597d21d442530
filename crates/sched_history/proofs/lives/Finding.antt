-- The live flows and placements are found by their SIDs, and ascend.
use Rattle.std.proofs.Common.{◌≡◌, ℕ, ◌≤◌, ◌<◌, Bool, false, ◌==◌, List, find}
use Rattle.std.proofs.Common.{Option, None, Some, refl, sym, ap, arith, [], ◌∷◌}
use Rattle.std.specs.List.{AllByRecursion}
use Rattle.std.specs.Option.{option_map, option_and_then}
use Rattle.std.proofs.lemmas.Bool.Decides.{nat_tests}
use Rattle.minislots.specs.declared.config.Config.{Config}
use Rattle.sched_calls.specs.declared.spec.FlowSpec.{FlowSpec}
use Rattle.map_build.specs.Spots.{IsFlowSid, AreOfChannel}
use Rattle.flow_book.specs.Flows.{LiveFlow, flow_of}
use Rattle.sched_calls.specs.Sids.{AscendBy}
use Rattle.sched_calls.specs.declared.placement.Placement.{Placement}
use Rattle.periodic.specs.Placement.{count_from, Placed}
use Rattle.sched_calls.specs.declared.reply.Entry.{Entry}
use Rattle.sched_history.specs.Life.{Life, life_of, given_in, rests_in, flow_in_life, placed_in_life, sids}
use Rattle.sched_history.specs.Life.{flows_of, table_of}
use Rattle.sched_history.specs.Refusal.{bad_sid}
use Rattle.sched_history.proofs.lists.Numbered.{HasNumber, filter_map-above, filter_map-ascends, filter_map-below}
use Rattle.sched_history.proofs.lists.Numbered.{find-inside}

-- how many SIDs there are, from 1 on
pub sids-range : (n : ℕ) × (n ≡ 8191) × (sids ≡ count_from 1 n)
unfolding sids
sids-range = (8191, refl, refl)

-- the live flow that a SID is after a history
abbrev pub flow_at : Config → List Entry → ℕ → Option LiveFlow
flow_at c h sid = option_map (flow_in_life c sid) (life_of sid h)

-- the placed flow that a SID is after a history
abbrev pub placed_at : List Entry → ℕ → Option Placed
placed_at h sid = option_and_then (placed_in_life sid) (life_of sid h)

flow-number : (c : Config) (sid : ℕ) (o : Option Life) (f : LiveFlow) → option_map (flow_in_life c sid) o ≡ Some f
    → f.sid ≡ sid
flow-number c sid None f is = absurd cc
flow-number c sid (Some life) f is = let same : flow_in_life c sid life ≡ f = cc in sym (ap (λ g. g.sid) same)

-- a live flow has its SID
pub flow_at-sid : (c : Config) (h : List Entry) → HasNumber (λ f. f.sid) (flow_at c h)
flow_at-sid c h sid f is = flow-number c sid (life_of sid h) f is

placement-number : (sid : ℕ) (spec : FlowSpec) (rests : Bool) (placement : Option Placement) (p : Placed)
    → option_map (λ placement. record { sid = sid; spec = spec; placement = placement; rests = rests }) placement
    ≡ Some p → p.sid ≡ sid
placement-number sid spec rests None p is = absurd cc
placement-number sid spec rests (Some placement) p is =
    let same : record { sid = sid; spec = spec; placement = placement; rests = rests } ≡ p = cc in
    sym (ap (λ q. q.sid) same)

placed-number : (sid : ℕ) (o : Option Life) (p : Placed) → option_and_then (placed_in_life sid) o ≡ Some p → p.sid ≡ sid
placed-number sid None p is = absurd cc
placed-number sid (Some life) p is =
    placement-number sid (given_in sid life).spec (rests_in sid life.since) (given_in sid life).placement p is

-- a placed flow has its SID
pub placed_at-sid : (h : List Entry) → HasNumber (λ p. p.sid) (placed_at h)
placed_at-sid h sid p is = placed-number sid (life_of sid h) p is

-- the live flow with a SID is the one of its life
pub flow_of-flows_of : (c : Config) (sid : ℕ) (h : List Entry) → 1 ≤ sid → sid ≤ 8191
    → flow_of sid (flows_of c h) ≡ option_map (flow_in_life c sid) (life_of sid h)
flow_of-flows_of c sid h low high =
    rw sids-range.2
    (find-inside (λ f. f.sid) (flow_at c h) (flow_at-sid c h) 1 sids-range.0 sid low (omega (arith, sids-range.1)))

-- the placed flow with a SID is the one of its life
pub find-table_of : (sid : ℕ) (h : List Entry) → 1 ≤ sid → sid ≤ 8191
    → find (λ p. p.sid == sid) (table_of h) ≡ option_and_then (placed_in_life sid) (life_of sid h)
find-table_of sid h low high =
    rw sids-range.2
    (find-inside (λ p. p.sid) (placed_at h) (placed_at-sid h) 1 sids-range.0 sid low (omega (arith, sids-range.1)))

-- the placed flows stand in order of SID
pub table_of-ascends : (h : List Entry) → AscendBy (λ p. p.sid) (table_of h)
table_of-ascends h = rw sids-range.2 (filter_map-ascends (λ p. p.sid) (placed_at h) (placed_at-sid h) 1 sids-range.0)

-- every live flow has a SID that a flow may have
pub flows_of-sids : (c : Config) (h : List Entry) → AllByRecursion (λ f. 1 ≤ f.sid) (flows_of c h)
    × AllByRecursion (λ f. f.sid < 8192) (flows_of c h)
flows_of-sids c h = rw sids-range.2 (
  filter_map-above (λ f. f.sid) (flow_at c h) (flow_at-sid c h) 0 1 sids-range.0 (omega arith),
  filter_map-below (λ f. f.sid)
      (flow_at c h) (flow_at-sid c h) 8192 1 sids-range.0 (omega (arith, sids-range.1)),
)

within-both : (flows : List LiveFlow) → AllByRecursion (λ f. 1 ≤ f.sid) flows → AllByRecursion (λ f. f.sid < 8192) flows
    → AllByRecursion (λ f. IsFlowSid f.sid) flows
within-both [] low high = tt
within-both (f ∷ flows) low high = ((low.0, omega (arith, high.0)), within-both flows low.1 high.1)

-- the live flows are those that a channel may have
pub flows_of-channel : (c : Config) (h : List Entry) → AreOfChannel (flows_of c h)
flows_of-channel c h = record {
  ascend = rw sids-range.2
      (filter_map-ascends (λ f. f.sid) (flow_at c h) (flow_at-sid c h) 1 sids-range.0);
  sids = within-both (flows_of c h) (flows_of-sids c h).0 (flows_of-sids c h).1;
}

-- the SIDs of flows are those that are not refused
pub good_sid : (sid : ℕ) → bad_sid sid ≡ false → (1 ≤ sid) × (sid ≤ 8191)
good_sid sid good = (grind (arith, nat_tests), grind (arith, nat_tests))
