-- Where the placed flows are the periodic ones they are so in alike flows and tables.
use Rattle.std.proofs.Common.{◌≡◌, refl, sym, ap, ◌∙◌, List, [], ◌∷◌, map, filter}
use Rattle.minislots.specs.declared.config.Config.{Config}
use Rattle.sched_calls.specs.FlowSpec.{is_periodic}
use Rattle.flow_book.specs.Flows.{LiveFlow}
use Rattle.periodic.specs.Placement.{Placed}
use Rattle.map_build.specs.Spots.{ArePeriodicOf}
use Rattle.restart_laws.proofs.Alike.{AlikePlaced, AlikeFlow, AlikeFlows, AlikeTables}
use Rattle.restart_laws.proofs.flows.Fields.{sid-alike, spec-alike}
use Rattle.restart_laws.proofs.maps.Lists.{made-alike, filter-alike}

module _ (c : Config) {K : Type 0} where
  -- what alike placed flows have the same of those of alike tables have the same of
  placed-keys : (key : Placed → K) → ((p q : Placed) → AlikePlaced c p q → key p ≡ key q) → (ps qs : List Placed)
      → AlikeTables c ps qs → map key ps ≡ map key qs
  placed-keys key each [] [] alike = refl
  placed-keys key each [] (q ∷ qs) alike = absurd alike
  placed-keys key each (p ∷ ps) [] alike = absurd alike
  placed-keys key each (p ∷ ps) (q ∷ qs) alike = rw (each p q alike.0, placed-keys key each ps qs alike.1) refl

  -- and so have the periodic ones of alike flows
  periodic-keys : (key : LiveFlow → K) → ((f g : LiveFlow) → AlikeFlow c f g → key f ≡ key g) → (fs gs : List LiveFlow)
      → AlikeFlows c fs gs
      → map key (filter (λ f. is_periodic f.spec) fs) ≡ map key (filter (λ g. is_periodic g.spec) gs)
  periodic-keys key each fs gs alike =
      made-alike c key key each (filter (λ f. is_periodic f.spec) fs) (filter (λ g. is_periodic g.spec) gs)
      (filter-alike c (λ f. is_periodic f.spec) (λ g. is_periodic g.spec)
      (λ f g same. ap is_periodic (spec-alike c f g same)) fs gs alike)

-- the placed flows are the periodic ones
pub periodic-alike : (c : Config) (fs gs : List LiveFlow) (ps qs : List Placed) → AlikeFlows c fs gs
    → AlikeTables c ps qs → ArePeriodicOf fs ps → ArePeriodicOf gs qs
periodic-alike c fs gs ps qs flows tables periodic = record {
  sids = sym (placed-keys c (λ p. p.sid) (λ p q alike. alike.sid) ps qs tables) ∙ periodic.sids
      ∙ periodic-keys c (λ f. f.sid) (sid-alike c) fs gs flows;
  specs = sym (placed-keys c (λ p. p.spec) (λ p q alike. alike.spec) ps qs tables) ∙ periodic.specs
      ∙ periodic-keys c (λ f. f.spec) (spec-alike c) fs gs flows;
}
