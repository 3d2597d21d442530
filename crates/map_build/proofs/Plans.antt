-- A draft with a plan and one allocation more that may stand there.
use Rattle.std.proofs.Common.{◌≡◌, ◌+◌, List, [], ◌∷◌, ◌++◌, if◌then◌else◌, inl, inr}
use Rattle.std.proofs.Common.{refl, sym, ap, ◌∙◌, arith}
use Rattle.std.proofs.lemmas.List.{map-append}
use Rattle.std.proofs.lemmas.List.Sums.{sum_by_push}
use Rattle.minislots.specs.declared.config.Config.{Config}
use Rattle.map_build.specs.declared.draft.Draft.{Draft}
use Rattle.map_build.specs.declared.purpose.Allocation.{Allocation}
use Rattle.map_build.specs.Purpose.{is_data_grant}
use Rattle.map_build.specs.Plan.{Demand, end_of, flows_after, Stands}
use Rattle.map_build.specs.FrameMap.{AreMet}
use Rattle.map_build.specs.Spots.{AreInFrame}
use Rattle.map_build.specs.Walk.{IsWellBegun, IsAfter, Takes, HasPlan}
use Rattle.map_build.proofs.EachAfterLaws.{EachAfter-push}
use Rattle.map_build.proofs.FlowsAfter.{flows_after-push, started-after}
use Rattle.map_build.proofs.Clear.{grants-within, IsClear, clear-purpose, contains-more, taken-all}
use Rattle.map_build.proofs.Offers.{met-here, met-push}

module _ (c : Config) (d : Demand) (plan : List Allocation) (old new : Draft) (a : Allocation)
    (are : AreInFrame c d.spots) (has : HasPlan c d plan old) (takes : Takes a old new)
    (stands : Stands c d plan a) where
  here : a.offset ≡ old.offset
  here = stands.follows ∙ ap (λ k. end_of k plan) (sym has.config) ∙ sym has.after.ends

  clear : IsClear c d.spots a
  clear = clear-purpose c d plan a.offset a.slots a.purpose are
      (omega (arith, here, has.ready.inside, ap (λ k. k.frame) has.config)) stands.some_slots stands.purpose

  -- the marks of the draft are those of the plan with it
  met-after : AreMet (plan ++ a ∷ []) new.met
  met-after = record {
    each = λ place is. elim (takes.knows.met place is) [
      | inl before ↦ (
          let found = has.after.met.each place before in
          (found.0, contains-more plan a found.0 found.1, found.2))
      | inr it ↦ met-here plan a place it
    ];
    all = λ place is. elim (met-push plan a place is) [
      | inl before ↦ takes.knows.kept place (has.after.met.all place before)
      | inr it ↦ takes.knows.new_met place it
    ];
  }

  -- the book knows of the plan with it
  after-push : IsAfter d.flows (plan ++ a ∷ []) new
  after-push = record {
    flows_now = takes.knows.flows ∙ ap (flows_after old.overlay.config old.start (a ∷ [])) has.after.flows_now
        ∙ sym (flows_after-push old.overlay.config old.start plan a d.flows)
        ∙ ap (λ s. flows_after old.overlay.config s (plan ++ a ∷ []) d.flows) (sym takes.knows.start)
        ∙ ap (λ k. flows_after k new.start (plan ++ a ∷ []) d.flows) (sym takes.knows.config);
    ends = omega (
      arith,
      takes.offset,
      has.after.ends,
      ap (λ k. k.req_slots) takes.knows.config,
      sum_by_push (λ (b : Allocation). b.slots) plan a,
    );
    grants = omega (
      arith,
      takes.knows.grants,
      has.after.grants,
      sum_by_push (λ (b : Allocation). if is_data_grant b.purpose
          then 1 else 0) plan a,
    );
    met = met-after;
  }

  ready-push : IsWellBegun d.waiting new
  ready-push = record {
    lawful = rw takes.knows.config has.ready.lawful;
    near = rw takes.knows.start has.ready.near;
    inside = omega (
      arith,
      takes.offset,
      clear.0,
      here,
      ap (λ k. k.frame) takes.knows.config,
      ap (λ k. k.frame) has.config,
    );
    marks = takes.knows.marks ∙ has.ready.marks;
    few = omega (
      arith,
      takes.knows.grants,
      has.after.grants,
      grants-within c d plan a.offset a.slots a.purpose stands.purpose
          (omega (arith, has.ready.few, has.after.grants, ap (λ k. k.pending) has.config)),
      ap (λ k. k.pending) takes.knows.config,
      ap (λ k. k.pending) has.config,
    );
    started = rw (takes.knows.flows, takes.knows.start, takes.offset)
        (started-after old.overlay.config old.start (old.start + old.offset) (old.start + (old.offset + a.slots)) a old.overlay.flows
        (omega arith) (omega (arith, here)) has.ready.started);
  }

  -- the draft has the plan with it
  pub HasPlan-push : HasPlan c d (plan ++ a ∷ []) new
  HasPlan-push = record {
    config = takes.knows.config ∙ has.config;
    before = takes.knows.before ∙ has.before;
    starts = takes.knows.start ∙ has.starts;
    ready = ready-push;
    after = after-push;
    elements = takes.elements ∙ rw (has.elements, has.config, map-append) refl;
    bytes_of = takes.bytes_of ∙ rw (has.bytes_of, has.config, map-append) refl;
    each = EachAfter-push (Stands c d) [] plan a has.each stands;
    taken = rw (takes.offset, ← here) (taken-all d.spots d.spots plan a clear.1 (λ s is. is) (rw here has.taken));
  }
