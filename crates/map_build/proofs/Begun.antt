-- A draft with the request region alone has the plan of nothing, and one with a quiet idle alone is quiet.
use Rattle.std.proofs.Common.{◌≡◌, ℕ, zero, suc, ◌+◌, ◌≤◌, Bool, true, false, Some, List, [], ◌∷◌}
use Rattle.std.proofs.Common.{length, replicate, refl, sym, ap, ◌∙◌, arith}
use Rattle.std.specs.List.{AllByRecursion, slice_get}
use Rattle.minislots.specs.declared.config.Config.{Config}
use Rattle.minislots.specs.Config.{IsLawful, HasBounds}
use Rattle.minislots.proofs.Bounds.{bounds_of}
use Rattle.map_codec.specs.declared.element.iuc.TheConstants.{REQUEST}
use Rattle.flow_book.specs.Flows.{LiveFlow}
use Rattle.flow_book.specs.Choice.{HasStartedBy}
use Rattle.periodic.specs.declared.placement.Spot.{Spot}
use Rattle.map_build.specs.declared.draft.Draft.{Draft}
use Rattle.map_build.specs.Plan.{Demand}
use Rattle.map_build.specs.UsageCodes.{long_iuc}
use Rattle.map_build.specs.Spots.{IsInFrame, AreInFrame}
use Rattle.map_build.specs.Draft.{Puts}
use Rattle.map_build.specs.Begun.{IsBegun, IsQuiet}
use Rattle.map_build.specs.Walk.{AreTaken, HasPlan}
use Rattle.map_build.proofs.FlowsAfter.{flows_after-nil, started-later}

begun-taken : (c : Config) (spots : List Spot) (offset : ℕ) → offset ≤ c.req_slots →
    AllByRecursion (IsInFrame c) spots → AreTaken spots [] offset
begun-taken c [] offset le each = tt
begun-taken c (s ∷ spots) offset le each = (
  (λ lt. absurd (omega (arith, each.0.after_requests))),
  begun-taken c spots offset le each.1,
)

-- of places that are all unmarked none is marked
pub none-marked : (n place : ℕ) → slice_get (replicate n false) place ≡ Some true → ⊥
none-marked zero place is = absurd (cc)
none-marked (suc n) zero is = absurd (cc)
none-marked (suc n) (suc place) is = none-marked n place is

started-flows : (early late : ℕ) (flows : List LiveFlow) → early ≤ late → AllByRecursion (HasStartedBy early) flows →
    AllByRecursion (HasStartedBy late) flows
started-flows early late [] le all = tt
started-flows early late (f ∷ flows) le all = (
  started-later early late f.grants le all.0,
  started-flows early late flows le all.1,
)

-- with the request region it has the plan of nothing
pub HasPlan-begun : (c : Config) (d : Demand) (old new : Draft) → IsLawful c →
    IsBegun c d.flows d.start old →
    Puts 16383 REQUEST c.req_slots 0 old new → AreInFrame c d.spots → HasPlan c d [] new
HasPlan-begun c d old new lawful begun puts are =
    let bounds : HasBounds c = bounds_of c lawful in
    let same : new.overlay.config ≡ c = ap (λ b. b.config) puts.overlay ∙ begun.config in
    let at : new.offset ≡ c.req_slots = omega (arith, puts.offset, begun.offset) in
    let flows_are : new.overlay.flows ≡ d.flows = ap (λ b. b.flows) puts.overlay ∙ begun.flows_are in
    record {
      config = same;
      before = ap (λ b. b.before) puts.overlay ∙ begun.before;
      starts = puts.start ∙ begun.starts;
      ready = record {
        lawful = rw same lawful;
        near = omega (arith, puts.start, begun.starts, begun.bounded);
        inside = omega (arith, at, bounds.requests_fit, ap (λ k. k.frame) same);
        marks = ap (λ (met : List Bool). length met) puts.met ∙ begun.marks;
        few = omega (arith, puts.grants, begun.grants);
        started = rw (flows_are, at, puts.start, begun.starts) (started-flows d.start (d.start + c.req_slots) d.flows
            (omega arith) begun.started);
      };
      after = record {
        flows_now = flows_are ∙ sym (flows_after-nil new.overlay.config new.start d.flows);
        ends = omega (arith, at, ap (λ k. k.req_slots) same);
        grants = omega (arith, puts.grants, begun.grants);
        met = record {
          each = λ place is. absurd (begun.unmarked place (rw puts.met at is));
          all = λ place is. absurd (omega (arith, is.1.1));
        };
      };
      elements = puts.elements ∙ rw (begun.elements, begun.offset) refl;
      bytes_of = puts.bytes_of ∙ rw begun.bytes_of refl;
      each = tt;
      taken = begun-taken c d.spots new.offset (omega (arith, at)) are.each;
    }

-- with an idle over the whole frame it is quiet
pub IsQuiet-begun : (c : Config) (flows : List LiveFlow) (start : ℕ) (old new : Draft) → IsLawful c →
    IsBegun c flows start old →
    Puts 0 (long_iuc c) c.frame 0 old new → IsQuiet c flows start new
IsQuiet-begun c flows start old new lawful begun puts = record {
  lawful = lawful;
  config = ap (λ b. b.config) puts.overlay ∙ begun.config;
  before = ap (λ b. b.before) puts.overlay ∙ begun.before;
  flows_are = ap (λ b. b.flows) puts.overlay ∙ begun.flows_are;
  starts = puts.start ∙ begun.starts;
  offset = omega (arith, puts.offset, begun.offset);
  elements = puts.elements ∙ rw (begun.elements, begun.offset) refl;
  bytes_of = puts.bytes_of ∙ rw begun.bytes_of refl;
  unmarked = λ place is. begun.unmarked place (rw puts.met at is);
}
