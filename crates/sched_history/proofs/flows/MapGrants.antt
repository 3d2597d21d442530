-- The data grants that a plan's MAP is read to have are those of the plan.
use Rattle.std.proofs.Common.{◌≡◌, ℕ, ◌+◌, ◌<◌, Bool, true, false, ◌&&◌, nat_lt, ◌==◌, if◌then◌else◌}
use Rattle.std.proofs.Common.{List, [], ◌∷◌, ◌++◌, map, None, Some, refl, arith}
use Rattle.std.specs.List.{AllByRecursion, filter_map, zip}
use Rattle.std.proofs.lemmas.Bool.Decides.{nat_tests}
use Rattle.minislots.specs.declared.config.Config.{Config}
use Rattle.map_codec.specs.declared.element.Element.{Element}
use Rattle.flow_book.specs.declared.flow.Grant.{Grant}
use Rattle.sched_calls.specs.declared.opportunity.Header.{Header}
use Rattle.map_build.specs.declared.purpose.Allocation.{Allocation}
use Rattle.map_build.specs.declared.purpose.Purpose.{Purpose}
use Rattle.map_build.specs.declared.purpose.Purpose.TheVariants.{Poll, UnsolicitedGrant, Offer, DataGrant, Idle}
use Rattle.map_build.specs.EachAfter.{EachAfter}
use Rattle.map_build.specs.Purpose.{grant_to, element_of, bytes_in}
use Rattle.map_build.specs.Plan.{Demand, grants_to, flows_after, IsOfClass, Stands, IsPlan}
use Rattle.map_build.specs.FrameMap.{null_element, pending, map_of}
use Rattle.map_build.proofs.FlowsAfter.{allocation}
use Rattle.sched_history.specs.Life.{grant_by, grants_of_map}
use Rattle.sched_history.specs.Facts.{head_for}

-- a data grant has some bytes
abbrev pub HasBytes : Purpose → Type 0
HasBytes (DataGrant sid bytes) = 0 < bytes
HasBytes purpose = Unit {0}

module _ (c : Config) (d : Demand) where
  stands-HasBytes : (before : List Allocation) (offset slots : ℕ) (purpose : Purpose)
      → IsOfClass c d before offset slots purpose → HasBytes purpose
  stands-HasBytes before offset slots (DataGrant sid bytes) stands = stands.4.allowed.positive
  stands-HasBytes before offset slots purpose stands = tt

  each-HasBytes : (before plan : List Allocation) → EachAfter (Stands c d) before plan
      → AllByRecursion (λ a. HasBytes a.purpose) plan
  each-HasBytes before [] each = tt
  each-HasBytes before (a ∷ plan) each =
      (stands-HasBytes before a.offset a.slots a.purpose each.0.purpose, each-HasBytes (before ++ a ∷ []) plan each.1)

  -- each data grant of a plan has some bytes
  pub plan-HasBytes : (plan : List Allocation) → IsPlan c d plan → AllByRecursion (λ a. HasBytes a.purpose) plan
  plan-HasBytes plan is = each-HasBytes [] plan is.each

module _ (sid start : ℕ) where
  no_bytes : (b : Bool) (g : Grant) → (if b && nat_lt 0 0 then Some g else None) ≡ None
  no_bytes true g = refl
  no_bytes false g = refl

  -- an element with no bytes is no data grant
  grant_by-none : (e : Element) → grant_by sid start (e, 0) ≡ None
  grant_by-none e = no_bytes (e.sid == sid) (record { start = start + e.offset; bytes = 0 })

  some_bytes : (b : Bool) (bytes : ℕ) (g : Grant) → 0 < bytes
      → (if b && nat_lt 0 bytes then Some g else None) ≡ (if b then Some g else None)
  some_bytes true bytes g some = grind (arith, nat_tests)
  some_bytes false bytes g some = refl

  -- the data grant that an allocation's element is read as
  grant_by-allocation : (c : Config) (offset slots : ℕ) (purpose : Purpose) → HasBytes purpose
      → grant_by sid start (element_of c (allocation offset slots purpose), bytes_in c (allocation offset slots purpose))
      ≡ grant_to start sid purpose offset
  grant_by-allocation c offset slots (DataGrant other bytes) has =
      some_bytes (other == sid) bytes (record { start = start + offset; bytes = bytes }) has
  grant_by-allocation c offset slots (Poll other) has = grant_by-none (element_of c (allocation offset slots (Poll other)))
  grant_by-allocation c offset slots (UnsolicitedGrant other size) has =
      grant_by-none (element_of c (allocation offset slots (UnsolicitedGrant other size)))
  grant_by-allocation c offset slots (Offer place usage) has =
      grant_by-none (element_of c (allocation offset slots (Offer place usage)))
  grant_by-allocation c offset slots Idle has = grant_by-none (element_of c (allocation offset slots Idle))

  -- elements with no bytes have no data grants
  zip-none : (es : List Element) → filter_map (grant_by sid start) (zip es (map (λ e. 0) es)) ≡ []
  zip-none [] = refl
  zip-none (e ∷ es) = rw (grant_by-none e) (zip-none es)

  -- the elements of a plan, and behind them some with no data grant
  zip-plan : (c : Config) (plan : List Allocation) (es : List Element) (bs : List ℕ)
      → AllByRecursion (λ a. HasBytes a.purpose) plan → filter_map (grant_by sid start) (zip es bs) ≡ []
      → filter_map (grant_by sid start) (zip (map (element_of c) plan ++ es) (map (bytes_in c) plan ++ bs))
      ≡ grants_to start sid plan
  zip-plan c [] es bs has none = none
  zip-plan c (a ∷ plan) es bs has none =
      rw (grant_by-allocation c a.offset a.slots a.purpose has.0, zip-plan c plan es bs has.1 none) refl

-- the data grants of the MAP with this plan are those of the plan
pub grants_of_map-plan : (sid : ℕ) (c : Config) (d : Demand) (header : Header) (ack : ℕ) (plan : List Allocation)
    → AllByRecursion (λ a. HasBytes a.purpose) plan
    → grants_of_map sid (map_of c d header ack plan) ≡ grants_to d.start sid plan
grants_of_map-plan sid c d header ack plan has =
    let behind : List Element = null_element c ∷ pending c (flows_after c d.start plan d.flows) in
    rw (grant_by-none sid d.start (head_for c d.settles))
    (zip-plan sid d.start c plan behind (map (λ e. 0) behind) has (zip-none sid d.start behind))
