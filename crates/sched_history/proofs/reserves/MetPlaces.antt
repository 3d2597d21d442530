-- What a MAP meets is what its plan meets: the Reserves that it leaves are those at whose places no mark stands.
use Rattle.std.proofs.Common.{◌≡◌, Bool, true, false, if◌then◌else◌, List, [], refl, sym, ap, ◌∙◌}
use Rattle.std.specs.List.{AllByRecursion}
use Rattle.minislots.specs.declared.config.Config.{Config}
use Rattle.map_build.specs.declared.purpose.Allocation.{Allocation}
use Rattle.map_build.specs.Plan.{Demand, IsPlan}
use Rattle.map_build.specs.FrameMap.{AreMet, elements_of}
use Rattle.map_build.specs.declared.met.Met.{Met}
use Rattle.map_build.specs.Reading.{meets_place, met_in}
use Rattle.map_build.proofs.Offers.{is_met-met, met-is_met}
use Rattle.map_build.proofs.Reading.{met_by_plan, meets_place-plan, met_in-plan}
use Rattle.sched_calls.specs.declared.reply.Entry.{Entry}
use Rattle.sched_history.specs.declared.scheduler.reserves.Reserve.{Reserve}
use Rattle.sched_history.specs.Reserves.{IsReserve, unmarked, left_by, left_behind, aged, met_beside, met_by}
use Rattle.sched_history.specs.Reserves.{reserves_past, reserves_of}
use Rattle.sched_history.specs.Situation.{Situation, situation_of, settles_in, spots_next}
use Rattle.sched_history.specs.History.{demand_in, demand_after, IsLegal}
use Rattle.sched_history.proofs.reserves.GoodReserves.{MayWait-good, reserves_of-good}
use Rattle.sched_history.proofs.reserves.Places.{left_by-unmarked}

-- the Reserves that a plan leaves are those at whose places its marks do not stand
left_by-marks : (plan : List Allocation) (marks : List Bool) (rs : List Reserve) → AreMet plan marks
    → left_by (meets_place (met_by_plan plan)) rs ≡ unmarked marks rs
left_by-marks plan marks rs are = left_by-unmarked (meets_place (met_by_plan plan)) marks rs
    (λ k marked. meets_place-plan plan k ∙ met-is_met plan k (are.each k marked))
    (λ k met. are.all k (is_met-met plan k (sym (meets_place-plan plan k) ∙ met)))

behind-marks : (settles : Bool) (met : List Met) (marks : List Bool) (rs : List Reserve)
    → left_by (meets_place met) rs ≡ unmarked marks rs
    → left_behind settles marks rs ≡ (if settles then rs else aged (left_by (meets_place met) rs))
behind-marks true met marks rs same = refl
behind-marks false met marks rs same = ap aged (sym same)

met-plan : (settles : Bool) (met : List Met) (plan : List Allocation) → (settles ≡ true → plan ≡ [])
    → met ≡ met_by_plan plan → (if settles then [] else met) ≡ met_by_plan plan
met-plan true met plan quiet same = sym (ap met_by_plan (quiet refl))
met-plan false met plan quiet same = same

module _ (c : Config) (x : Situation) (waiting : AllByRecursion (IsReserve c) x.reserves) (plan : List Allocation)
    (is : IsPlan c (demand_in c x) plan) where
  -- what the MAP of a plan meets is what the plan meets
  pub met_beside-plan : met_beside c (settles_in c x) (spots_next c x) x.reserves (elements_of c (demand_in c x) plan)
      ≡ met_by_plan plan
  met_beside-plan =
      let d : Demand = demand_in c x in
      met-plan (settles_in c x) (met_in c d.spots d.waiting (elements_of c d plan)) plan is.quiet
      (met_in-plan c d (MayWait-good c x.reserves waiting).some_slots plan is)

  -- so the marks of a MAP stand at the Reserves that it meets
  pub left_behind-marks : (marks : List Bool) → AreMet plan marks
      → left_behind (settles_in c x) marks x.reserves
      ≡ reserves_past c (settles_in c x) (spots_next c x) (elements_of c (demand_in c x) plan) x.reserves
  left_behind-marks marks are =
      behind-marks (settles_in c x)
      (met_beside c (settles_in c x) (spots_next c x) x.reserves (elements_of c (demand_in c x) plan)) marks x.reserves
      (ap (λ met. left_by (meets_place met) x.reserves) met_beside-plan ∙ left_by-marks plan marks x.reserves are)

-- so it is after a legal history
pub met_by-plan : (c : Config) (h : List Entry) (legal : IsLegal c h) (plan : List Allocation)
    → IsPlan c (demand_after c h) plan
    → met_by c h (reserves_of c h) (elements_of c (demand_after c h) plan) ≡ met_by_plan plan
met_by-plan c h legal plan is = met_beside-plan c (situation_of c h) (reserves_of-good c h legal) plan is
