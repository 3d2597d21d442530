-- The places of a possible state are those of a table of placements, but for the references.
use Rattle.std.proofs.Common.{◌≡◌, refl, sym, ap, subst, ℕ, ◌<◌, ◌≤◌, ◌%◌, Option, None, Some, List, [], ◌∷◌, length}
use Rattle.std.proofs.Common.{sum_by, arith}
use Rattle.std.specs.List.{AllByRecursion}
use Rattle.std.proofs.lemmas.List.Sums.{sum_by-cons}
use Rattle.minislots.specs.declared.config.Config.{Config}
use Rattle.minislots.specs.Config.{IsLawful}
use Rattle.sched_calls.specs.declared.state.ChannelState.{ChannelState}
use Rattle.sched_calls.specs.declared.state.FlowState.{FlowState}
use Rattle.sched_calls.specs.declared.state.PlaceState.{PlaceState}
use Rattle.sched_calls.specs.FlowSpec.{grants_of}
use Rattle.sched_calls.specs.Sids.{AscendBy}
use Rattle.periodic.specs.Placement.{Placed}
use Rattle.periodic.specs.Table.{placed_grants, AreApart, IsSoundPlaced, AreSound}
use Rattle.periodic.proofs.Frames.{in-cycle, spots_in-place}
use Rattle.channel_states.specs.PossibleFlow.{IsPossibleFlow}
use Rattle.periodic.specs.Carried.{placed_at, placed_in}
use Rattle.channel_states.specs.Possible.{IsPossible}
use Rattle.channel_states.proofs.Places.{offset-is}
use Rattle.channel_states.proofs.Taking.{own-place}

module _ (c : Config) where
  placed-by : (P : List Placed → Type 0) (f : FlowState) (flows : List FlowState) (at : Option PlaceState)
      → f.place ≡ at → P (placed_in c flows)
      → ((place : PlaceState) → f.place ≡ Some place → P (placed_at c f place ∷ placed_in c flows))
      → P (placed_in c (f ∷ flows))
  placed-by P f flows None is none some = rw is none
  placed-by P f flows (Some place) is none some = rw is (some place is)

  -- what is so of the other flows that have places, and with this one, is so of all
  placed-first : (P : List Placed → Type 0) (f : FlowState) (flows : List FlowState) → P (placed_in c flows)
      → ((place : PlaceState) → f.place ≡ Some place → P (placed_at c f place ∷ placed_in c flows))
      → P (placed_in c (f ∷ flows))
  placed-first P f flows none some = placed-by P f flows f.place refl none some

  -- what is so of the SIDs of flows is so of those that have places
  all-placed : (P : ℕ → Type 0) (flows : List FlowState) → AllByRecursion (λ f. P f.sid) flows
      → AllByRecursion (λ p. P p.sid) (placed_in c flows)
  all-placed P [] all = tt
  all-placed P (f ∷ flows) all =
      placed-first (AllByRecursion (λ p. P p.sid)) f flows (all-placed P flows all.1)
      (λ place is. (all.0, all-placed P flows all.1))

  -- they are in order
  ascend-placed : (flows : List FlowState) → AscendBy (λ f. f.sid) flows → AscendBy (λ p. p.sid) (placed_in c flows)
  ascend-placed [] all = tt
  ascend-placed (f ∷ flows) all =
      placed-first (AscendBy (λ p. p.sid)) f flows (ascend-placed flows all.1)
      (λ place is. (all-placed (λ sid. f.sid < sid) flows all.0, ascend-placed flows all.1))

  -- and have no more grants per interval
  grants-placed : (flows : List FlowState) → placed_grants (placed_in c flows) ≤ sum_by (λ f. grants_of f.spec) flows
  grants-placed [] = omega arith
  grants-placed (f ∷ flows) =
      let rest = grants-placed flows in
      let sum = sum_by-cons (λ (g : FlowState). grants_of g.spec) f flows in
      placed-first (λ placed. placed_grants placed ≤ sum_by (λ g. grants_of g.spec) (f ∷ flows)) f flows
      (omega (arith, rest, sum))
      (λ place is. omega (
        arith,
        rest,
        sum,
        sum_by-cons (λ (p : Placed). grants_of p.spec) (placed_at c f place) (placed_in c flows),
      ))

  -- a possible flow with a place is soundly placed
  sound-placed : (entries next : ℕ) (f : FlowState) (at : PlaceState) → IsPossibleFlow c entries next f
      → f.place ≡ Some at → IsSoundPlaced c (placed_at c f at)
  sound-placed entries next f at is here =
      let own = own-place c entries next f at is here in
      record {
        sid_positive = is.sid_positive;
        sid_most = is.sid_most;
        periodic = own.0;
        no_fault = is.parameters;
        after_requests = subst (λ m. c.req_slots ≤ m) (sym (offset-is c at own.1.within_frame)) own.1.after_requests;
        starts = own.1.starts;
        polled = λ rests. (own.1.rests rests).room;
      }

  each-placed : (entries next : ℕ) (flows : List FlowState) → AllByRecursion (IsPossibleFlow c entries next) flows
      → AllByRecursion (IsSoundPlaced c) (placed_in c flows)
  each-placed entries next [] all = tt
  each-placed entries next (f ∷ flows) all =
      placed-first (AllByRecursion (IsSoundPlaced c)) f flows (each-placed entries next flows all.1)
      (λ place is. (sound-placed entries next f place all.0 is, each-placed entries next flows all.1))

  -- the places of a possible state
  pub sound-places : (s : ChannelState) → IsLawful c → IsPossible c s → AreSound c (placed_in c s.flows)
  sound-places s lawful is = record {
    ascending = ascend-placed s.flows is.sids;
    most = omega (arith, grants-placed s.flows, is.limits.grants_most);
    each = each-placed s.entries s.next s.flows is.flows;
    apart = λ k.
        subst AreApart (spots_in-place c k (placed_in c s.flows))
        ((is.places (k % c.cycle) (in-cycle c k lawful)).apart);
    few = λ k.
        omega (
          arith,
          ap length (spots_in-place c k (placed_in c s.flows)),
          (is.places (k % c.cycle) (in-cycle c k lawful)).few,
        );
  }
