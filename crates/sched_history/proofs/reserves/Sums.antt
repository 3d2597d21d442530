-- Sums over Reserves: those that are met and those that are left together are all.
use Rattle.std.proofs.Common.{◌≡◌, ◌≢◌, ℕ, zero, suc, ◌+◌, Bool, true, false, ◌||◌, ◌==◌, if◌then◌else◌, List, [], ◌∷◌}
use Rattle.std.proofs.Common.{◌++◌, Option, Some, slice_get, sum_by, map, drop, refl, sym, ap, ◌∙◌, append_assoc, arith}
use Rattle.std.specs.List.{AllByRecursion, cons_option}
use Rattle.std.proofs.lemmas.Bool.Decides.{nat_tests}
use Rattle.std.proofs.lemmas.List.{append-nil}
use Rattle.std.proofs.lemmas.List.Folds.{list_any-append}
use Rattle.std.proofs.lemmas.List.Sums.{sum_by-cons}
use Rattle.minislots.specs.declared.config.Config.{Config}
use Rattle.map_codec.specs.declared.element.Element.{Element}
use Rattle.periodic.specs.declared.placement.Spot.{Spot}
use Rattle.map_build.specs.EachAfter.{EachAfter}
use Rattle.map_build.specs.declared.met.Met.{Met}
use Rattle.map_build.specs.Reading.{meets_place, met_in, IsMetBehind}
use Rattle.map_build.proofs.FirstPlaces.{met_over-each}
use Rattle.sched_calls.specs.declared.reply.Entry.{Entry}
use Rattle.sched_history.specs.declared.scheduler.reserves.Reserve.{Reserve}
use Rattle.sched_history.specs.Settling.{settles_after}
use Rattle.sched_history.specs.Reserves.{left_by, waiting_in, spots_after, met_by}
use Rattle.sched_history.specs.Ranging.{reserves_met}
use Rattle.sched_history.proofs.reserves.Places.{left_by-same, left_by-none, AsksAt, waiting-asks}

-- One place more is met, at which this Reserve stands
record MeetsOne (test other : ℕ → Bool) (rs : List Reserve) (place : ℕ) (r : Reserve) : Type 0 where
  stands : slice_get rs place ≡ Some r
  unmet : test place ≡ false
  meets : other place ≡ true
  elsewhere : (k : ℕ) → k ≢ place → other k ≡ test k

later-one : (test other : ℕ → Bool) (x : Reserve) (rs : List Reserve) (place : ℕ) (r : Reserve)
    → MeetsOne test other (x ∷ rs) (suc place) r
    → MeetsOne (λ k. test (suc k)) (λ k. other (suc k)) rs place r
later-one test other x rs place r one = record {
  stands = one.stands;
  unmet = one.unmet;
  meets = one.meets;
  elsewhere = λ k apart. one.elsewhere (suc k) (λ same. apart (omega arith));
}

said-one : (r x : Reserve) → Some r ≡ Some x → r ≡ x
said-one r x is = cc

module _ (f : Reserve → ℕ) where
  one-more : (b : Bool) (x : Reserve) (rs left : List Reserve) (n : ℕ) → sum_by f rs ≡ sum_by f left + n
      → sum_by f (if b then rs else x ∷ rs) ≡ sum_by f (if b then left else x ∷ left) + n
  one-more true x rs left n same = same
  one-more false x rs left n same = omega (arith, same, sum_by-cons f x rs, sum_by-cons f x left)

  -- with one place more that is met the Reserve there is no longer among those that are left
  sum-meets_one : (test other : ℕ → Bool) (rs : List Reserve) (place : ℕ) (r : Reserve)
      → MeetsOne test other rs place r → sum_by f (left_by test rs) ≡ sum_by f (left_by other rs) + f r
  sum-meets_one test other [] place r meets = absurd (let none = meets.stands in cc)
  sum-meets_one test other (x ∷ rs) zero r meets =
      let rest : List Reserve = left_by (λ k. test (suc k)) rs in
      let same : left_by (λ k. other (suc k)) rs ≡ rest =
      left_by-same (λ k. other (suc k)) (λ k. test (suc k)) rs (λ k. meets.elsewhere (suc k) (λ same. omega arith)) in
      rw (meets.unmet, meets.meets, same)
      (omega (arith, sum_by-cons f x rest, ap f (said-one x r meets.stands)))
  sum-meets_one test other (x ∷ rs) (suc place) r meets =
      rw (meets.elsewhere 0 (λ same. omega arith))
      (one-more (test 0) x (left_by (λ k. test (suc k)) rs) (left_by (λ k. other (suc k)) rs) (f r)
      (sum-meets_one (λ k. test (suc k)) (λ k. other (suc k)) rs place r (later-one test other x rs place r meets)))

there : (b : Bool) (k : ℕ) → (b || (k == k || false)) ≡ true
there true k = refl
there false k = let same : (k == k) ≡ true = grind (arith, nat_tests) in rw same refl

apart-from : (b : Bool) (k place : ℕ) → k ≢ place → (b || (k == place || false)) ≡ b
apart-from true k place apart = refl
apart-from false k place apart = let differs : (k == place) ≡ false = grind (arith, nat_tests) in rw differs refl

-- one that is met more
meets-one : (c : Config) (spots : List Spot) (rs : List Reserve) (before : List Met) (x : Met)
    (is : IsMetBehind c spots (waiting_in rs) before x)
    → MeetsOne (meets_place before) (meets_place (before ++ x ∷ [])) rs x.place
    (waiting-asks rs x.place is.opportunity is.waits).reserve
meets-one c spots rs before x is = record {
  stands = (waiting-asks rs x.place is.opportunity is.waits).stands;
  unmet = is.unmet;
  meets = list_any-append (λ (y : Met). x.place == y.place) before (x ∷ [])
      ∙ there (meets_place before x.place) x.place;
  elsewhere = λ k apart. list_any-append (λ (y : Met). k == y.place) before (x ∷ [])
      ∙ apart-from (meets_place before k) k x.place apart;
}

-- what is met at a place is the Reserve that stands there
pub met-cons : (rs : List Reserve) (x : Met) (met : List Met) (r : Reserve) → slice_get rs x.place ≡ Some r
    → reserves_met (x ∷ met) rs ≡ r ∷ reserves_met met rs
met-cons rs x met r is = ap (λ (o : Option Reserve). cons_option o (reserves_met met rs)) is

module _ (c : Config) (spots : List Spot) (rs : List Reserve) where
  -- what holds of each opportunity that is met, and waits at its place, holds of all that are
  pub all-met : (P : Reserve → Type 0) (before met : List Met)
      → EachAfter (IsMetBehind c spots (waiting_in rs)) before met
      → AllByRecursion (λ x. (r : Reserve) → slice_get (waiting_in rs) x.place ≡ Some r.opportunity → P r) met
      → AllByRecursion P (reserves_met met rs)
  all-met P before [] each holds = tt
  all-met P before (x ∷ met) each holds =
      let at : AsksAt rs x.place each.0.opportunity =
      waiting-asks rs x.place each.0.opportunity each.0.waits in
      rw (met-cons rs x met at.reserve at.stands)
      (holds.0 at.reserve (each.0.waits ∙ ap Some (sym at.asks)), all-met P (before ++ x ∷ []) met each.1 holds.1)

  module _ (f : Reserve → ℕ) where
    sum-each : (before met : List Met) → EachAfter (IsMetBehind c spots (waiting_in rs)) before met
        → sum_by f (left_by (meets_place before) rs)
        ≡ sum_by f (left_by (meets_place (before ++ met)) rs) + sum_by f (reserves_met met rs)
    sum-each before [] each = rw append-nil (omega arith)
    sum-each before (x ∷ met) each =
        let at : AsksAt rs x.place each.0.opportunity =
        waiting-asks rs x.place each.0.opportunity each.0.waits in
        omega (
          arith,
          sum-meets_one f (meets_place before) (meets_place (before ++ x ∷ [])) rs x.place at.reserve
              (meets-one c spots rs before x each.0),
          sum-each (before ++ x ∷ []) met each.1,
          ap (sum_by f) (met-cons rs x met at.reserve at.stands),
          sum_by-cons f at.reserve (reserves_met met rs),
          ap (λ all. sum_by f (left_by (meets_place all) rs)) (append_assoc before (x ∷ []) met),
        )

-- what a MAP meets waits, is met once, and has room
pub met_by-each : (c : Config) (h : List Entry) (rs : List Reserve) (es : List Element)
    → EachAfter (IsMetBehind c (spots_after c h) (waiting_in rs)) [] (met_by c h rs es)
met_by-each c h rs es = either (settles_after c h)
  where
    either : (b : Bool) → EachAfter (IsMetBehind c (spots_after c h) (waiting_in rs)) []
        (if b then [] else met_in c (spots_after c h) (waiting_in rs) es)
    either true = tt
    either false = met_over-each c (spots_after c h) (waiting_in rs) []
        (map (λ (e : Element). e.offset) (drop 1 es)) tt

-- what a MAP meets and what it leaves is all that there was
pub sum-met : (f : Reserve → ℕ) (c : Config) (h : List Entry) (rs : List Reserve) (es : List Element)
    → sum_by f rs ≡ sum_by f (left_by (meets_place (met_by c h rs es)) rs) + sum_by f (reserves_met (met_by c h rs es) rs)
sum-met f c h rs es = omega (
  arith,
  ap (sum_by f) (left_by-none (meets_place []) rs (λ k. refl)),
  sum-each c (spots_after c h) rs f [] (met_by c h rs es) (met_by-each c h rs es),
)
