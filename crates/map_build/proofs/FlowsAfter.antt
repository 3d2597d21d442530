-- The live flows after one allocation more of the frame.
use Rattle.std.proofs.Common.{◌≡◌, ℕ, ◌+◌, ◌≤◌, Bool, true, false, ◌==◌, List, [], ◌∷◌, ◌++◌, filter_map, Option}
use Rattle.std.proofs.Common.{None, Some, find, if◌then◌else◌, refl, sym, ap, ◌∙◌, arith}
use Rattle.std.specs.Option.{option_map}
use Rattle.std.specs.List.{AllByRecursion}
use Rattle.std.proofs.lemmas.Bool.Decides.{nat_tests}
use Rattle.std.proofs.lemmas.List.{append-nil, append_assoc}
use Rattle.std.proofs.lemmas.List.Elements.{filter_map-append}
use Rattle.minislots.specs.declared.config.Config.{Config}
use Rattle.flow_book.specs.declared.flow.Grant.{Grant}
use Rattle.flow_book.specs.Flows.{LiveFlow, charge_of, charges_of, flow_of}
use Rattle.flow_book.specs.Reserved.{with_grant}
use Rattle.flow_book.specs.Choice.{HasStartedBy}
use Rattle.flow_book.specs.Book.{changed}
use Rattle.periodic.proofs.Joined.{all-append}
use Rattle.map_build.specs.declared.purpose.Allocation.{Allocation}
use Rattle.map_build.specs.declared.purpose.Purpose.{Purpose}
use Rattle.map_build.specs.declared.purpose.Purpose.TheVariants.{Poll, UnsolicitedGrant, Offer, DataGrant, Idle}
use Rattle.map_build.specs.Purpose.{grant_to}
use Rattle.map_build.specs.Plan.{grants_to, with_grants, flow_after, flows_after}

-- so many minislots from an offset on, for this purpose
abbrev pub allocation : ℕ → ℕ → Purpose → Allocation
allocation offset slots purpose = record { offset = offset; slots = slots; purpose = purpose }

-- a flow with some grants and some more has the more ones behind the others
pub with_grants-more : (c : Config) (gs hs : List Grant) (f : LiveFlow)
    → with_grants c (gs ++ hs) f ≡ with_grants c hs (with_grants c gs f)
with_grants-more c [] hs f = refl
with_grants-more c (g ∷ gs) hs f = with_grants-more c gs hs (with_grant c g f)

-- it is the same flow but for its grants and what they charge
pub with_grants-is : (c : Config) (gs : List Grant) (f : LiveFlow) → with_grants c gs f ≡ record f {
  grants = f.grants ++ gs;
  sustained = f.sustained ++ charges_of gs;
  peak = f.peak ++ charges_of gs;
  reserved = (with_grants c gs f).reserved;
}
with_grants-is c [] f = rw (append-nil f.grants, append-nil f.sustained, append-nil f.peak) refl
with_grants-is c (g ∷ gs) f =
    rw (
      append_assoc f.grants (g ∷ []) gs,
      append_assoc f.sustained (charge_of g ∷ []) (charges_of gs),
      append_assoc f.peak (charge_of g ∷ []) (charges_of gs),
    ) at (with_grants-is c gs (with_grant c g f))

-- so it has the same SID
pub with_grants-sid : (c : Config) (gs : List Grant) (f : LiveFlow) → (with_grants c gs f).sid ≡ f.sid
with_grants-sid c [] f = refl
with_grants-sid c (g ∷ gs) f = with_grants-sid c gs (with_grant c g f)

flow_after-push : (c : Config) (start : ℕ) (plan : List Allocation) (a : Allocation) (f : LiveFlow) →
    flow_after c start (plan ++ a ∷ []) f ≡ flow_after c start (a ∷ []) (flow_after c start plan f)
flow_after-push c start plan a f =
    ap (λ gs. with_grants c gs f) (filter_map-append (λ (b : Allocation). grant_to start f.sid b.purpose b.offset) plan
    (a ∷ []))
    ∙ with_grants-more c (grants_to start f.sid plan) (grants_to start f.sid (a ∷ [])) f
    ∙ ap (λ sid. with_grants c (grants_to start sid (a ∷ [])) (flow_after c start plan f))
    (sym (with_grants-sid c (grants_to start f.sid plan) f))

-- the flows after a plan with an allocation more are those after it, after the allocation
pub flows_after-push : (c : Config) (start : ℕ) (plan : List Allocation) (a : Allocation) (flows : List LiveFlow) →
    flows_after c start (plan ++ a ∷ []) flows ≡ flows_after c start (a ∷ []) (flows_after c start plan flows)
flows_after-push c start plan a [] = refl
flows_after-push c start plan a (f ∷ flows) =
    rw (flow_after-push c start plan a f, flows_after-push c start plan a flows) refl

-- after nothing they are the same
pub flows_after-nil : (c : Config) (start : ℕ) (flows : List LiveFlow) → flows_after c start [] flows ≡ flows
flows_after-nil c start [] = refl
flows_after-nil c start (f ∷ flows) = rw (flows_after-nil c start flows) refl

-- after an allocation that grants nothing they are the same
pub flows_after-none : (c : Config) (start : ℕ) (a : Allocation) (flows : List LiveFlow) →
    ((sid : ℕ) → grants_to start sid (a ∷ []) ≡ []) →
    flows_after c start (a ∷ []) flows ≡ flows
flows_after-none c start a [] none = refl
flows_after-none c start a (f ∷ flows) none =
    rw (none f.sid, flows_after-none c start a flows none) refl

-- a grant, or none
abbrev granted_if : Bool → Grant → List Grant
granted_if true g = g ∷ []
granted_if false g = []

one-if : (b : Bool) (g : Grant) → filter_map (λ (o : Option Grant). o) ((if b then Some g else None) ∷ [])
    ≡ granted_if b g
one-if true g = refl
one-if false g = refl

grants_to-one : (start sid other offset slots bytes : ℕ) →
    grants_to start other (record { offset = offset; slots = slots; purpose = DataGrant sid bytes } ∷ [])
    ≡ granted_if (sid == other) (record { start = start + offset; bytes = bytes })
grants_to-one start sid other offset slots bytes =
    one-if (sid == other) (record { start = start + offset; bytes = bytes })

granted-one : (c : Config) (f : LiveFlow) (g : Grant) (b d : Bool) → b ≡ d →
    with_grants c (granted_if b g) f ≡ (if d then with_grant c g f else f)
granted-one c f g true true same = refl
granted-one c f g true false same = absurd (cc)
granted-one c f g false true same = absurd (cc)
granted-one c f g false false same = refl

-- after a data grant the flow of its SID has one more
pub flows_after-grant : (c : Config) (start sid offset slots bytes : ℕ) (flows : List LiveFlow) →
    flows_after c start (allocation offset slots (DataGrant sid bytes) ∷ []) flows
    ≡ changed sid (with_grant c (record { start = start + offset; bytes = bytes })) flows
flows_after-grant c start sid offset slots bytes [] = refl
flows_after-grant c start sid offset slots bytes (f ∷ flows) =
    let g : Grant = record { start = start + offset; bytes = bytes } in
    let same : (sid == f.sid) ≡ (f.sid == sid) = grind (arith, nat_tests) in
    let here : flow_after c start (allocation offset slots (DataGrant sid bytes) ∷ []) f
    ≡ (if f.sid == sid then with_grant c g f else f) =
    ap (λ gs. with_grants c gs f) (grants_to-one start sid f.sid offset slots bytes)
    ∙ granted-one c f g (sid == f.sid) (f.sid == sid) same in
    rw (here, flows_after-grant c start sid offset slots bytes flows) refl

found-either : (b : Bool) (k : LiveFlow → LiveFlow) (f : LiveFlow) (after before : Option LiveFlow)
    → after ≡ option_map k before
    → (if b then Some (k f) else after) ≡ option_map k (if b then Some f else before)
found-either true k f after before same = refl
found-either false k f after before same = same

-- the flow of an SID after a plan
pub flow_of-after : (c : Config) (start sid : ℕ) (plan : List Allocation) (flows : List LiveFlow) →
    flow_of sid (flows_after c start plan flows) ≡ option_map (flow_after c start plan) (flow_of sid flows)
flow_of-after c start sid plan [] = refl
flow_of-after c start sid plan (f ∷ flows) =
    rw (with_grants-sid c (grants_to start f.sid plan) f)
    (found-either (f.sid == sid) (flow_after c start plan) f (find (λ g. g.sid == sid) (flows_after c start plan flows))
    (flow_of sid flows) (flow_of-after c start sid plan flows))

started-if : (b : Bool) (g : Grant) (later : ℕ) → g.start ≤ later →
    AllByRecursion (λ g. g.start ≤ later) (granted_if b g)
started-if true g later le = (le, tt)
started-if false g later le = tt

started-purpose : (start later sid offset slots : ℕ) (purpose : Purpose) → start + offset ≤ later →
    AllByRecursion (λ g. g.start ≤ later) (grants_to start sid (allocation offset slots purpose ∷ []))
started-purpose start later sid offset slots (Poll other) le = tt
started-purpose start later sid offset slots (UnsolicitedGrant other size) le = tt
started-purpose start later sid offset slots (Offer place usage) le = tt
started-purpose start later sid offset slots (DataGrant other bytes) le =
    rw (grants_to-one start other sid offset slots bytes)
    (started-if (other == sid) (record { start = start + offset; bytes = bytes }) later le)
started-purpose start later sid offset slots Idle le = tt

-- grants that started by some minislot did by a later one
pub started-later : (early later : ℕ) (grants : List Grant) → early ≤ later →
    AllByRecursion (λ g. g.start ≤ early) grants →
    AllByRecursion (λ g. g.start ≤ later) grants
started-later early later [] le all = tt
started-later early later (g ∷ grants) le all = (omega (arith, all.0), started-later early later grants le all.1)

-- after an allocation all grants have started by its end, where they had by its offset
pub started-after : (c : Config) (start early later : ℕ) (a : Allocation) (flows : List LiveFlow) → early ≤ later →
    start + a.offset ≤ later →
    AllByRecursion (HasStartedBy early) flows → AllByRecursion (HasStartedBy later) (flows_after c start (a ∷ []) flows)
started-after c start early later a [] le here all = tt
started-after c start early later a (f ∷ flows) le here all = (
  rw (ap (λ (g : LiveFlow). g.grants) (with_grants-is c (grants_to start f.sid (a ∷ [])) f))
      (all-append (λ (g : Grant). g.start ≤ later) f.grants (grants_to start f.sid (a ∷ []))
      (started-later early later f.grants le all.0) (started-purpose start later f.sid a.offset a.slots a.purpose here)),
  started-after c start early later a flows le here all.1,
)
