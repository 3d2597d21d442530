-- Situations of one state have the same to serve in the next frame, and the same MAP is lawful for it.
use Rattle.std.proofs.Common.{◌≡◌, refl, ap, ◌∙◌, subst, ℕ, ◌+◌, ◌/◌, Bool, List, map}
use Rattle.minislots.specs.declared.config.Config.{Config}
use Rattle.sched_calls.specs.declared.opportunity.Header.{Header}
use Rattle.sched_calls.specs.declared.opportunity.Opportunity.{Opportunity}
use Rattle.sched_calls.specs.declared.frame_map.FrameMap.{FrameMap}
use Rattle.flow_book.specs.Flows.{LiveFlow}
use Rattle.periodic.specs.declared.placement.Spot.{Spot}
use Rattle.periodic.specs.Placement.{due_in}
use Rattle.map_build.specs.Plan.{Demand, with_grants}
use Rattle.map_build.specs.FrameMap.{IsLawfulMap}
use Rattle.sched_history.specs.declared.scheduler.settling.Settling.{Settling}
use Rattle.sched_history.specs.Life.{grants_of_map}
use Rattle.sched_history.specs.Reserves.{waiting_in}
use Rattle.sched_history.specs.Settling.{settles_by}
use Rattle.sched_history.specs.Time.{least}
use Rattle.sched_history.specs.Situation.{Situation, settles_in, spots_next}
use Rattle.sched_history.specs.History.{demand_in, IsNextMapIn}
use Rattle.restart_laws.proofs.Alike.{IsAlike}
use Rattle.restart_laws.proofs.tables.Alike.{due-alike}
use Rattle.restart_laws.proofs.maps.Choice.{AreAlikeAt}
use Rattle.restart_laws.proofs.maps.Plan.{plan-alike}
use Rattle.restart_laws.proofs.maps.Maps.{lawful-alike}
use Rattle.restart_laws.proofs.steps.Granted.{granted-plan}

-- what a frame has to serve
abbrev demand : ℕ → List LiveFlow → List Spot → List Opportunity → Bool → Demand
demand start flows spots waiting settles =
    record { start = start; flows = flows; spots = spots; waiting = waiting; settles = settles }

demand-same : (start start' : ℕ) (flows : List LiveFlow) (spots spots' : List Spot)
    (waiting waiting' : List Opportunity) (settles settles' : Bool) → start ≡ start' → spots ≡ spots'
    → waiting ≡ waiting' → settles ≡ settles'
    → demand start flows spots waiting settles ≡ demand start' flows spots' waiting' settles'
demand-same start start' flows spots spots' waiting waiting' settles settles' a b e f = rw (a, b, e, f) refl

settles-same : (c : Config) (header header' : Header) (settling settling' : Settling) (next next' : ℕ)
    → header ≡ header' → settling ≡ settling' → next ≡ next'
    → settles_by c header settling next ≡ settles_by c header' settling' next'
settles-same c header header' settling settling' next next' a b e = rw (a, b, e) refl

-- a MAP that is lawful is so for what is the same
moved-map : (c : Config) (m : FrameMap) (d d' : Demand) (header header' : Header) (progress progress' : ℕ) → d ≡ d'
    → header ≡ header' → progress ≡ progress' → IsLawfulMap c d header progress m → IsLawfulMap c d' header' progress' m
moved-map c m d d' header header' progress progress' demands headers heard lawful =
    subst (λ e. IsLawfulMap c e header' progress' m) demands
    (subst (λ h. IsLawfulMap c d h progress' m) headers (subst (λ n. IsLawfulMap c d header n m) heard lawful))

module _ (c : Config) (x y : Situation) (alike : IsAlike c x y) where
  -- the next frame has the same polls and unsolicited grants
  pub spots-alike : spots_next c x ≡ spots_next c y
  spots-alike =
      ap (λ n. due_in c (n / c.frame) x.placed) alike.next
      ∙ due-alike c (y.next / c.frame) x.placed y.placed alike.placed

  -- and settles alike
  pub settles-alike : settles_in c x ≡ settles_in c y
  settles-alike =
      settles-same c x.header y.header x.settling y.settling x.next y.next alike.header alike.settling alike.next

  demand-alike : record (demand_in c x) { flows = y.flows } ≡ demand_in c y
  demand-alike =
      demand-same x.next y.next y.flows (spots_next c x) (spots_next c y) (waiting_in x.reserves)
      (waiting_in y.reserves) (settles_in c x) (settles_in c y) alike.next spots-alike (ap waiting_in alike.reserves)
      settles-alike

  module _ (m : FrameMap) (are : AreAlikeAt c x.next x.flows y.flows) (lawful : IsNextMapIn c x m) where
    -- the lawful MAP is the same
    pub map-alike : IsNextMapIn c y m
    map-alike =
        moved-map c m (record (demand_in c x) { flows = y.flows }) (demand_in c y) x.header y.header (least x.progress)
        (least y.progress) demand-alike alike.header (ap least alike.progress)
        (lawful-alike c (demand_in c x) y.flows x.header (least x.progress) m are lawful)

    -- and leaves the flows alike
    pub granted-alike : AreAlikeAt c (x.next + c.frame) (map (λ f. with_grants c (grants_of_map f.sid m) f) x.flows)
        (map (λ f. with_grants c (grants_of_map f.sid m) f) y.flows)
    granted-alike =
        rw (granted-plan c x m lawful x.flows, granted-plan c x m lawful y.flows)
        (plan-alike c (demand_in c x) y.flows lawful.0 are lawful.1).left
