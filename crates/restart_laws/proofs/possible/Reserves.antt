-- The Reserves of every legal history go to SIDs that they may go to, and none is older than one before it.
use Rattle.std.proofs.Common.{◌≡◌, refl, ℕ, suc, ◌+◌, ◌≤◌, ◌==◌, ◌&&◌, ◌||◌, nat_lt, Bool, true, false, not, List}
use Rattle.std.proofs.Common.{[], ◌∷◌, ◌++◌, if◌then◌else◌, arith}
use Rattle.std.specs.List.{AllByRecursion}
use Rattle.std.proofs.lemmas.Bool.{cond_both}
use Rattle.std.proofs.lemmas.Bool.Decides.{nat_tests}
use Rattle.minislots.specs.declared.config.Config.{Config}
use Rattle.sched_calls.specs.declared.opportunity.Opportunity.{Opportunity}
use Rattle.sched_calls.specs.declared.opportunity.Usage.{Usage}
use Rattle.sched_calls.specs.declared.opportunity.Usage.TheVariants.{Initial, InitialTo, Station, Request}
use Rattle.sched_calls.specs.declared.opportunity.Usage.TheVariants.{Quiet, DataTo}
use Rattle.sched_calls.specs.declared.reply.Entry.{Entry}
use Rattle.flow_book.proofs.Order.{all-push}
use Rattle.channel_states.specs.Possible.{is_sid_of_flow, has_sid}
use Rattle.map_build.specs.Purpose.{broadcast}
use Rattle.map_build.specs.FrameMap.{elements_of}
use Rattle.map_build.specs.Reading.{meets_place}
use Rattle.sched_history.specs.declared.scheduler.reserves.Reserve.{Reserve}
use Rattle.sched_history.specs.Refusal.{bad_sid, is_sid_of_priorities, is_to_bad_sid}
use Rattle.sched_history.specs.Reserves.{last_map, older, aged, new_reserve, left_by, met_beside}
use Rattle.sched_history.specs.Situation.{Situation, situation_of, settles_in, spots_next}
use Rattle.sched_history.specs.History.{demand_in, IsLegal}
use Rattle.sched_history.proofs.reserves.Places.{all-left_by}
use Rattle.restart_laws.proofs.possible.Effects.{Effect, Described, Accepted, reserves_left}
use Rattle.restart_laws.proofs.possible.Legal.{kept-legal}

-- after no Reserve stands one that saw more MAPs
abbrev pub NeverRise : List Reserve → Type 0
NeverRise [] = Unit {0}
NeverRise (r ∷ rs) = AllByRecursion (λ later. later.maps ≤ r.maps) rs × NeverRise rs

-- a Reserve goes to an SID that it may go to
abbrev pub GoesTo : Reserve → Type 0
GoesTo r = has_sid r.opportunity.usage ≡ true

-- Reserves that may wait in this order
pub record AreInTurn (rs : List Reserve) : Type 0 where
  pub sids : AllByRecursion GoesTo rs
  pub in_order : NeverRise rs

flow-sid : (sid : ℕ) → bad_sid sid ≡ false → is_sid_of_flow sid ≡ true
flow-sid sid good = grind (arith, nat_tests)

request-sid : (sid : ℕ) → bad_sid sid && not (is_sid_of_priorities sid || sid == broadcast) ≡ false
    → has_sid (Request sid) ≡ true
request-sid sid good = grind (arith, nat_tests)

-- one that is accepted does
usage-sid : (usage : Usage) → is_to_bad_sid usage ≡ false → has_sid usage ≡ true
usage-sid Initial good = refl
usage-sid (InitialTo sid) good = flow-sid sid good
usage-sid (Station sid) good = flow-sid sid good
usage-sid (Request sid) good = request-sid sid good
usage-sid Quiet good = refl
usage-sid (DataTo sid) good = flow-sid sid good

rise-new : (o : Opportunity) (rs : List Reserve) → NeverRise rs → NeverRise (rs ++ new_reserve o ∷ [])
rise-new o [] order = (tt, tt)
rise-new o (r ∷ rs) order = (
  all-push (λ (later : Reserve). later.maps ≤ r.maps) rs (new_reserve o) order.0 (omega arith),
  rise-new o rs order.1,
)

rise-left : (test : ℕ → Bool) (rs : List Reserve) → NeverRise rs → NeverRise (left_by test rs)
rise-left test [] order = tt
rise-left test (r ∷ rs) order =
    let rest = rise-left (λ k. test (suc k)) rs order.1 in
    cond_both (test 0) (left_by (λ k. test (suc k)) rs) (r ∷ left_by (λ k. test (suc k)) rs) NeverRise
    (λ met. rest)
    (λ unmet. (all-left_by (λ later. later.maps ≤ r.maps) (λ k. test (suc k)) rs order.0, rest))

all-aged : (P Q : Reserve → Type 0) → ((r : Reserve) → P r → Q (older r)) → (rs : List Reserve) → AllByRecursion P rs
    → AllByRecursion Q (aged rs)
all-aged P Q each [] all = tt
all-aged P Q each (r ∷ rs) all =
    cond_both (nat_lt (r.maps + 1) last_map) (older r ∷ aged rs) (aged rs) (AllByRecursion Q)
    (λ young. (each r all.0, all-aged P Q each rs all.1)) (λ old. all-aged P Q each rs all.1)

rise-aged : (rs : List Reserve) → NeverRise rs → NeverRise (aged rs)
rise-aged [] order = tt
rise-aged (r ∷ rs) order =
    cond_both (nat_lt (r.maps + 1) last_map) (older r ∷ aged rs) (aged rs) NeverRise
    (λ young. (
      all-aged (λ later. later.maps ≤ r.maps) (λ later. later.maps ≤ r.maps + 1) (λ later le. omega (arith, le)) rs
          order.0,
      rise-aged rs order.1,
    ))
    (λ old. rise-aged rs order.1)

-- so it is of those that a MAP leaves
in-turn-left : (settles : Bool) (test : ℕ → Bool) (rs : List Reserve) → AreInTurn rs
    → AreInTurn (if settles then rs else aged (left_by test rs))
in-turn-left true test rs are = are
in-turn-left false test rs are = record {
  sids = all-aged GoesTo GoesTo (λ r goes. goes) (left_by test rs) (all-left_by GoesTo test rs are.sids);
  in_order = rise-aged (left_by test rs) (rise-left test rs are.in_order);
}

module _ (c : Config) (x : Situation) where
  reserves-kept : (effect : Effect c x) → AreInTurn x.reserves → AreInTurn (reserves_left c x effect)
  reserves-kept (Accepted usage slots may) are =
      let o : Opportunity = record { usage = usage; slots = slots } in
      record {
        sids = all-push GoesTo x.reserves (new_reserve o) are.sids (usage-sid usage may.good);
        in_order = rise-new o x.reserves are.in_order;
      }
  reserves-kept (Described plan is) are =
      in-turn-left (settles_in c x)
      (meets_place (met_beside c (settles_in c x) (spots_next c x) x.reserves (elements_of c (demand_in c x) plan)))
      x.reserves are
  reserves-kept effect are = are

-- and of those of every legal history
pub reserves-legal : (c : Config) (h : List Entry) → IsLegal c h → AreInTurn (situation_of c h).reserves
reserves-legal c =
    kept-legal c (λ x. Unit {0}) (λ h legal. tt) (λ x. AreInTurn x.reserves)
    (λ x effect old new are. reserves-kept c x effect are) (record { sids = tt; in_order = tt })
