-- The MAP of a plan is well formed: its elements are in range, ascend, and have one Null.
use Rattle.std.proofs.Common.{◌≡◌, ℕ, zero, suc, ◌^◌, ◌<◌, ◌≤◌, Bool, true, false, List, [], ◌∷◌, ◌++◌, map}
use Rattle.std.proofs.Common.{filter, length, if◌then◌else◌, ◌==◌, Some, refl, subst, ◌∙◌, arith, append_assoc}
use Rattle.map_codec.specs.declared.element.iuc.TheConstants.{REQUEST, SHORT_DATA_GRANT, LONG_DATA_GRANT}
use Rattle.map_codec.specs.declared.element.iuc.TheConstants.{ADVANCED_SHORT_DATA_GRANT, ADVANCED_LONG_DATA_GRANT}
use Rattle.map_codec.specs.declared.element.iuc.TheConstants.{ADVANCED_UNSOLICITED_GRANT}
use Rattle.std.specs.List.{AllByRecursion, Contains, slice_get}
use Rattle.std.proofs.lemmas.Bool.{cond_both}
use Rattle.std.proofs.lemmas.List.{append-nil}
use Rattle.std.proofs.lemmas.List.Sums.{sum_by-cons, sum_by_push, sum_by-append}
use Rattle.std.proofs.lemmas.List.Elements.{All-contains, All-from_recursion}
use Rattle.minislots.specs.declared.config.Config.{Config}
use Rattle.minislots.specs.Units.{bytes_in, is_short}
use Rattle.map_codec.specs.declared.element.Element.{Element}
use Rattle.map_codec.specs.Element.{IsInRange, is_null, nulls, element_at, Ascends}
use Rattle.flow_book.specs.Flows.{LiveFlow}
use Rattle.flow_book.specs.Shown.{is_shown}
use Rattle.sched_calls.proofs.Removal.{all-filter}
use Rattle.periodic.specs.declared.placement.Spot.{Spot}
use Rattle.map_build.specs.EachAfter.{EachAfter}
use Rattle.sched_calls.specs.declared.opportunity.Opportunity.{Opportunity}
use Rattle.sched_calls.specs.declared.opportunity.Usage.TheVariants.{Initial, InitialTo, Station, Request, Quiet, DataTo}
use Rattle.map_build.specs.declared.purpose.Allocation.{Allocation}
use Rattle.map_build.specs.declared.purpose.Purpose.{Purpose}
use Rattle.map_build.specs.declared.purpose.Purpose.TheVariants.{Poll, UnsolicitedGrant, Offer, DataGrant, Idle}
use Rattle.map_build.specs.Purpose.{is_open, kind_of, element_of, sid_for}
use Rattle.map_build.specs.Opportunities.{HaveElementSids}
use Rattle.map_build.specs.Plan.{Demand, end_of, grants_to, flows_after, Stands, IsOfClass}
use Rattle.map_build.proofs.FlowsAfter.{with_grants-sid}
use Rattle.map_build.specs.UsageCodes.{short_iuc, long_iuc, data_iuc}
use Rattle.map_build.specs.FrameMap.{pending_of, request_region, quiet_element, head_of, null_element, elements_of}

-- the offsets do not descend, from this one on
abbrev pub Climbs : ℕ → List Element → Type 0
Climbs low [] = Unit {0}
Climbs low (e ∷ es) = (low ≤ e.offset) × Climbs e.offset es

-- offsets that do not descend do so at no place
pub Climbs-at : (low : ℕ) (es : List Element) → Climbs low es → (i : ℕ) → suc i < length es →
    (element_at es i).offset ≤ (element_at es (suc i)).offset
Climbs-at low [] climbs i within = absurd (omega arith)
Climbs-at low (e ∷ []) climbs i within = absurd (omega arith)
Climbs-at low (e ∷ next ∷ es) climbs zero within = climbs.1.0
Climbs-at low (e ∷ next ∷ es) climbs (suc i) within = Climbs-at e.offset (next ∷ es) climbs.1 i (omega arith)

-- a usage code in range that is not a Null's
abbrev Allocates : ℕ → Type 0
Allocates iuc = (iuc < 15) × ((iuc == 7) ≡ false)

-- one of two codes is one where both are
either : (b : Bool) (x y : ℕ) → Allocates x → Allocates y → Allocates (if b then x else y)
either true x y a b = a
either false x y a b = b

-- the code of a short data grant is one
short_iuc-allocates : (c : Config) → Allocates (short_iuc c)
short_iuc-allocates c =
    either (c.phy == 1) ADVANCED_SHORT_DATA_GRANT SHORT_DATA_GRANT (omega arith, refl) (omega arith, refl)

-- that of a long one is
long_iuc-allocates : (c : Config) → Allocates (long_iuc c)
long_iuc-allocates c =
    either (c.phy == 1) ADVANCED_LONG_DATA_GRANT LONG_DATA_GRANT (omega arith, refl) (omega arith, refl)

-- so that of a data grant is
data_iuc-allocates : (c : Config) (bytes : ℕ) → Allocates (data_iuc c bytes)
data_iuc-allocates c bytes =
    either (is_short c bytes) (short_iuc c) (long_iuc c) (short_iuc-allocates c) (long_iuc-allocates c)

-- as those of all allocations are
kind_of-iuc : (c : Config) (slots : ℕ) (purpose : Purpose) → Allocates (kind_of c slots purpose).iuc
kind_of-iuc c slots (Poll sid) = (omega arith, refl)
kind_of-iuc c slots (Offer place Initial) = (omega arith, refl)
kind_of-iuc c slots (Offer place (InitialTo sid)) = (omega arith, refl)
kind_of-iuc c slots (Offer place (Station sid)) = (omega arith, refl)
kind_of-iuc c slots (Offer place (Request sid)) = (omega arith, refl)
kind_of-iuc c slots (Offer place Quiet) = long_iuc-allocates c
kind_of-iuc c slots (Offer place (DataTo sid)) = either (bytes_in c slots == 0) (long_iuc c)
    (data_iuc c (bytes_in c slots)) (long_iuc-allocates c) (data_iuc-allocates c (bytes_in c slots))
kind_of-iuc c slots (UnsolicitedGrant sid size) =
    either (c.phy == 1) ADVANCED_UNSOLICITED_GRANT (data_iuc c size) (omega arith, refl) (data_iuc-allocates c size)
kind_of-iuc c slots (DataGrant sid bytes) = data_iuc-allocates c bytes
kind_of-iuc c slots Idle =
    either (is_open c slots) REQUEST (long_iuc c) (omega arith, refl) (long_iuc-allocates c)

-- no allocation's element is a Null
nulls-plan : (c : Config) (plan : List Allocation) (rest : List Element) → nulls (map (element_of c) plan ++ rest)
    ≡ nulls rest
nulls-plan c [] rest = refl
nulls-plan c (a ∷ plan) rest =
    sum_by-cons _ (element_of c a) (map (element_of c) plan ++ rest)
    ∙ (rw (kind_of-iuc c a.slots a.purpose).1
    (omega (arith, nulls-plan c plan rest)))

-- where the offsets of what comes behind the plan do not descend, those of the whole do not
climbs-plan : (c : Config) (d : Demand) (before plan : List Allocation) (rest : List Element) (low : ℕ) →
    EachAfter (Stands c d) before plan → low ≤ end_of c before →
    ((n : ℕ) → n ≤ end_of c (before ++ plan) → Climbs n rest) →
    Climbs low (map (element_of c) plan ++ rest)
climbs-plan c d before [] rest low each below climbs = climbs low (rw append-nil below)
climbs-plan c d before (a ∷ plan) rest low each below climbs =
    let at : (element_of c a).offset ≡ end_of c before = each.0.follows in (
      omega (arith, at),
      climbs-plan c d (before ++ a ∷ []) plan rest (element_of c a).offset each.1
          (omega (arith, at, sum_by_push (λ (a : Allocation). a.slots) before a)) (rw append_assoc climbs),
    )

-- the SIDs of these flows are in range
abbrev pub HaveSids : List LiveFlow → Type 0
HaveSids flows = AllByRecursion (λ f. f.sid < 2 ^ 14) flows

-- the SIDs of these spots are in range
abbrev pub HaveSpotSids : List Spot → Type 0
HaveSpotSids spots = AllByRecursion (λ s. s.sid < 2 ^ 14) spots

-- a live flow's SID is in range where those of all are
sid_of_live : (flows : List LiveFlow) (f : LiveFlow) → HaveSids flows → Contains flows f → f.sid < 2 ^ 14
sid_of_live flows f sids live =
    All-contains (λ (g : LiveFlow). g.sid < 2 ^ 14) flows f (All-from_recursion _ flows sids) live

-- the flows after some grants have the same SIDs
sids_after : (c : Config) (start : ℕ) (plan : List Allocation) (flows : List LiveFlow) → HaveSids flows →
    HaveSids (flows_after c start plan flows)
sids_after c start plan [] sids = tt
sids_after c start plan (f ∷ flows) sids =
    (rw (with_grants-sid c (grants_to start f.sid plan) f) sids.0, sids_after c start plan flows sids.1)

-- the SID of an opportunity that waits is in range
waiting-sid : (waiting : List Opportunity) (place : ℕ) (o : Opportunity) → HaveElementSids waiting →
    slice_get waiting place ≡ Some o → sid_for o.usage < 2 ^ 14
waiting-sid [] place o all is = absurd (cc)
waiting-sid (w ∷ waiting) zero o all is = let same : w ≡ o = cc in subst (λ p. sid_for p.usage < 2 ^ 14) same all.0
waiting-sid (w ∷ waiting) (suc place) o all is = waiting-sid waiting place o all.1 is

module _ (c : Config) (d : Demand) (sids : HaveSids d.flows) (places : HaveSpotSids d.spots)
    (stations : HaveElementSids d.waiting) where
  -- the SID of an allocation's element is in range
  kind_of-sid : (before : List Allocation) (offset slots : ℕ) (purpose : Purpose) →
      IsOfClass c d before offset slots purpose → (kind_of c slots purpose).sid < 2 ^ 14
  kind_of-sid before offset slots (Offer place usage) stands =
      waiting-sid d.waiting place _ stations stands.may.waits
  kind_of-sid before offset slots (Poll sid) stands =
      All-contains (λ (s : Spot). s.sid < 2 ^ 14) d.spots _ (All-from_recursion _ d.spots places) stands
  kind_of-sid before offset slots (UnsolicitedGrant sid size) stands =
      All-contains (λ (s : Spot). s.sid < 2 ^ 14) d.spots _ (All-from_recursion _ d.spots places) stands
  kind_of-sid before offset slots (DataGrant sid bytes) stands =
      rw (← stands.2)
      (sid_of_live (flows_after c d.start before d.flows) stands.1 (sids_after c d.start before d.flows sids)
      stands.3.live)
  kind_of-sid before offset slots Idle stands =
      cond_both (is_open c slots) 16383 0 (λ sid. sid < 2 ^ 14) (λ on. omega arith) (λ on. omega arith)

  -- the elements of a plan within the frame are in range
  in_range-plan : (before plan : List Allocation) (rest : List Element) →
      EachAfter (Stands c d) before plan → end_of c (before ++ plan) < 2 ^ 14 →
      AllByRecursion IsInRange rest → AllByRecursion IsInRange (map (element_of c) plan ++ rest)
  in_range-plan before [] rest each within ranges = ranges
  in_range-plan before (a ∷ plan) rest each within ranges = (
    record {
      sid = kind_of-sid before a.offset a.slots a.purpose each.0.purpose;
      iuc = (kind_of-iuc c a.slots a.purpose).0;
      offset = omega (
        arith,
        each.0.follows,
        sum_by-append (λ (a : Allocation). a.slots) before (a ∷ plan),
      );
    },
    in_range-plan (before ++ a ∷ []) plan rest each.1 (rw append_assoc within) ranges,
  )

-- pending grants do not descend
climbs-pending : (c : Config) (flows : List LiveFlow) (low : ℕ) → low ≤ c.frame → Climbs low (map (pending_of c) flows)
climbs-pending c [] low below = tt
climbs-pending c (f ∷ flows) low below = (below, climbs-pending c flows c.frame (omega arith))

-- none is a Null
nulls-pending : (c : Config) (flows : List LiveFlow) → nulls (map (pending_of c) flows) ≡ 0
nulls-pending c [] = refl
nulls-pending c (f ∷ flows) =
    sum_by-cons _ (pending_of c f) (map (pending_of c) flows)
    ∙ (rw (long_iuc-allocates c).1 (omega (arith, nulls-pending c flows)))

-- each is in range
in_range-pending : (c : Config) (flows : List LiveFlow) → c.frame < 2 ^ 14 → HaveSids flows →
    AllByRecursion IsInRange (map (pending_of c) flows)
in_range-pending c [] below sids = tt
in_range-pending c (f ∷ flows) below sids =
    (record { sid = sids.0; iuc = (long_iuc-allocates c).0; offset = below }, in_range-pending c flows below sids.1)

-- an element that may be at the head of a MAP: in range, no Null, at offset 0
pub record MayLead (e : Element) : Type 0 where
  pub in_range : IsInRange e
  pub no_null : is_null e ≡ false
  pub first : e.offset ≡ 0

quiet-leads : (c : Config) → MayLead (quiet_element c)
quiet-leads c = record {
  in_range = record { sid = omega arith; iuc = (long_iuc-allocates c).0; offset = omega arith };
  no_null = (long_iuc-allocates c).1;
  first = refl;
}

region-leads : MayLead request_region
region-leads = record {
  in_range = record { sid = omega arith; iuc = omega arith; offset = omega arith };
  no_null = refl;
  first = refl;
}

-- the head of each MAP may be
head-leads : (c : Config) (d : Demand) → MayLead (head_of c d)
head-leads c d = cond_both d.settles (quiet_element c) request_region MayLead (λ on. quiet-leads c) (λ on. region-leads)

-- the elements of a MAP with a plan: in range, in order, with one Null
pub record AreEncodable (es : List Element) : Type 0 where
  pub in_range : AllByRecursion IsInRange es
  pub one_null : nulls es ≡ 1
  pub ascends : Ascends es

-- the elements of the MAP with a plan are
pub elements_of-encodable : (c : Config) (d : Demand) (plan : List Allocation) → c.frame < 2 ^ 14 →
    HaveSids d.flows → HaveSpotSids d.spots → HaveElementSids d.waiting →
    EachAfter (Stands c d) [] plan → end_of c plan ≤ c.frame → AreEncodable (elements_of c d plan)
elements_of-encodable c d plan below sids places stations each within =
    let head : MayLead (head_of c d) = head-leads c d in
    let all : List LiveFlow = flows_after c d.start plan d.flows in
    let waiting : List LiveFlow = filter (is_shown c.pending all) all in
    let sids_waiting : HaveSids waiting =
    all-filter (λ (g : LiveFlow). g.sid < 2 ^ 14) (is_shown c.pending all) all (sids_after c d.start plan d.flows sids) in
    let tail : List Element = null_element c ∷ map (pending_of c) waiting in
    let null_in_range : IsInRange (null_element c) = record { sid = omega arith; iuc = omega arith; offset = below } in
    let climbs : Climbs 0 (map (element_of c) plan ++ tail) =
    climbs-plan c d [] plan tail 0 each (omega arith)
    (λ n low. (omega (arith, low, within), climbs-pending c waiting c.frame (omega arith))) in
    record {
      in_range = (
        head.in_range,
        in_range-plan c d sids places stations [] plan tail each (omega (arith, below, within))
            (null_in_range, in_range-pending c waiting below sids_waiting),
      );
      one_null = sum_by-cons _ (head_of c d) (map (element_of c) plan ++ tail)
          ∙ (rw head.no_null
          (omega (
            arith,
            nulls-plan c plan tail,
            sum_by-cons (λ (e : Element). if is_null e then 1 else 0) (null_element c) (map (pending_of c) waiting),
            nulls-pending c waiting,
          )));
      ascends = λ i inside _. Climbs-at 0 (head_of c d ∷ (map (element_of c) plan ++ tail))
          (omega arith, rw head.first climbs) i inside;
    }
