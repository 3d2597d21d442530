-- What stands at an offset leaves no spot behind: the spots before its end are in the plan.
use Rattle.std.proofs.Common.{◌≡◌, ℕ, suc, ◌+◌, ◌<◌, ◌≤◌, None, Some, List, [], ◌∷◌, ◌++◌, Contains, inl, inr, refl}
use Rattle.std.proofs.Common.{sym, ap, subst, ◌∙◌, arith}
use Rattle.std.proofs.lemmas.Bool.{cases_lt}
use Rattle.std.proofs.lemmas.List.{length_push, get_or_append_left}
use Rattle.std.proofs.lemmas.List.Elements.{Contains-push}
use Rattle.minislots.specs.declared.config.Config.{Config}
use Rattle.periodic.specs.declared.placement.Spot.{Spot}
use Rattle.map_build.specs.declared.purpose.Allocation.{Allocation}
use Rattle.map_build.specs.declared.purpose.Purpose.{Purpose}
use Rattle.map_build.specs.declared.purpose.Purpose.TheVariants.{Poll, UnsolicitedGrant, Offer, DataGrant, Idle}
use Rattle.map_build.specs.Purpose.{allocation_of}
use Rattle.map_build.specs.Plan.{Demand, next_stop, grants_in, most_grants, IsOfClass}
use Rattle.map_build.specs.Spots.{AreInFrame}
use Rattle.map_build.specs.Walk.{AreTaken}
use Rattle.map_build.proofs.FlowsAfter.{allocation}
use Rattle.map_build.proofs.Stops.{next_stop-most, next_stop-least, next_stop-spot}
use Rattle.map_build.proofs.Standings.{spot-within, spots-apart}

-- one data grant more is at most the most
pub grants-within : (c : Config) (d : Demand) (before : List Allocation) (offset slots : ℕ) (purpose : Purpose) →
    IsOfClass c d before offset slots purpose → grants_in before ≤ most_grants c d.waiting →
    grants_in before + grants_in (allocation offset slots purpose ∷ []) ≤ most_grants c d.waiting
grants-within c d before offset slots (Poll sid) stands few = omega arith
grants-within c d before offset slots (UnsolicitedGrant sid size) stands few = omega arith
grants-within c d before offset slots (Offer place usage) stands few = omega arith
grants-within c d before offset slots (DataGrant sid bytes) stands few = omega (arith, stands.0)
grants-within c d before offset slots Idle stands few = omega arith

-- from the offset to the end of what stands there no spot begins but it
abbrev pub IsClear : Config → List Spot → Allocation → Type 0
IsClear c spots a = (a.offset + a.slots ≤ c.frame) × ((t : Spot) → Contains spots t → a.offset ≤ t.offset →
    t.offset < a.offset + a.slots → allocation_of t ≡ a)

clear-spot : (c : Config) (spots : List Spot) (s : Spot) → AreInFrame c spots → Contains spots s →
    IsClear c spots (allocation_of s)
clear-spot c spots s are is = (
  (spot-within c spots s are is).within,
  λ t begins from to. ap allocation_of (sym (spots-apart c spots are s t is begins from to)),
)

clear-room : (c : Config) (spots : List Spot) (a : Allocation) → a.offset ≤ c.frame →
    a.offset + a.slots ≤ next_stop c spots a.offset → IsClear c spots a
clear-room c spots a inside fits = (
  omega (arith, next_stop-most c spots a.offset),
  λ t begins from to. absurd (omega (arith, next_stop-spot c spots a.offset t begins from)),
)

-- what stands there is clear of other spots
pub clear-purpose : (c : Config) (d : Demand) (before : List Allocation) (offset slots : ℕ) (purpose : Purpose) →
    AreInFrame c d.spots → offset ≤ c.frame → 0 < slots → IsOfClass c d before offset slots purpose →
    IsClear c d.spots (allocation offset slots purpose)
clear-purpose c d before offset slots (Poll sid) are inside some stands =
    clear-spot c d.spots (record { sid = sid; size = None; offset = offset; slots = slots }) are stands
clear-purpose c d before offset slots (UnsolicitedGrant sid size) are inside some stands =
    clear-spot c d.spots (record { sid = sid; size = Some size; offset = offset; slots = slots }) are stands
clear-purpose c d before offset slots (Offer place usage) are inside some stands =
    clear-room c d.spots (record { offset = offset; slots = slots; purpose = Offer place usage }) inside
    (omega (arith, stands.may.fits, next_stop-least c d.spots offset inside))
clear-purpose c d before offset slots (DataGrant sid bytes) are inside some stands =
    clear-room c d.spots (record { offset = offset; slots = slots; purpose = DataGrant sid bytes }) inside
    (omega (arith, stands.4.allowed.taken.fits, stands.5, next_stop-least c d.spots offset inside))
clear-purpose c d before offset slots Idle are inside some stands =
    clear-room c d.spots (record { offset = offset; slots = slots; purpose = Idle }) inside
    (omega (arith, stands, next_stop-least c d.spots offset inside))

-- a list with one member more behind contains what it did
pub contains-more : {X : Type 0} (xs : List X) (x y : X) → Contains xs y → Contains (xs ++ x ∷ []) y
contains-more xs x y (k, lt, at) = (k, omega (arith, length_push xs x), get_or_append_left xs (x ∷ []) y k lt ∙ at)

-- a list with one member more in front contains what it did
pub contains-later : {X : Type 0} (xs : List X) (x y : X) → Contains xs y → Contains (x ∷ xs) y
contains-later xs x y (k, lt, at) = (suc k, omega arith, at)

taken-one : (spots : List Spot) (plan : List Allocation) (a : Allocation) (s : Spot) →
    ((t : Spot) → Contains spots t → a.offset ≤ t.offset → t.offset < a.offset + a.slots → allocation_of t ≡ a) →
    Contains spots s →
    (s.offset < a.offset → Contains plan (allocation_of s)) → s.offset < a.offset + a.slots →
    Contains (plan ++ a ∷ []) (allocation_of s)
taken-one spots plan a s clear is before lt = elim (cases_lt s.offset a.offset) [
  | inl early ↦ contains-more plan a (allocation_of s) (before early)
  | inr late ↦ subst (λ b. Contains (plan ++ a ∷ []) b) (sym (clear s is late lt)) (Contains-push plan a)
]

-- with what stands there the spots before its end are in the plan
pub taken-all : (all spots : List Spot) (plan : List Allocation) (a : Allocation) →
    ((t : Spot) → Contains all t → a.offset ≤ t.offset → t.offset < a.offset + a.slots → allocation_of t ≡ a) →
    ((s : Spot) → Contains spots s → Contains all s) →
    AreTaken spots plan a.offset → AreTaken spots (plan ++ a ∷ []) (a.offset + a.slots)
taken-all all [] plan a clear some taken = tt
taken-all all (s ∷ spots) plan a clear some taken = (
  taken-one all plan a s clear (some s (0, omega arith, refl)) taken.0,
  taken-all all spots plan a clear (λ t is. some t (contains-later spots s t is)) taken.1,
)
