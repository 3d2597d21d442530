-- How many allocations a lawful plan has: so many data grants and opportunities, the spots, and an idle before each
-- spot and at the end.
use Rattle.std.proofs.Common.{◌≡◌, ℕ, zero, suc, ◌+◌, ◌*◌, ◌<◌, ◌≤◌, ◌⊎◌, inl, inr, Bool, true, false, nat_le, List}
use Rattle.std.proofs.Common.{[], ◌∷◌, ◌++◌, length, Contains, if◌then◌else◌, refl, ap, ◌∙◌, ◌-◌, min, arith}
use Rattle.std.proofs.lemmas.Bool.Decides.{nat_tests}
use Rattle.std.proofs.lemmas.List.Sums.{sum_by_push}
use Rattle.minislots.specs.declared.config.Config.{Config}
use Rattle.minislots.specs.Bursts.{HasBursts}
use Rattle.periodic.specs.declared.placement.Spot.{Spot}
use Rattle.map_build.specs.EachAfter.{EachAfter}
use Rattle.map_build.specs.declared.TheConstants.{MAX_DATA_GRANTS, MAX_GRANTS_AND_PENDING, MAX_WAITING}
use Rattle.map_build.specs.declared.purpose.Allocation.{Allocation}
use Rattle.map_build.specs.declared.purpose.Purpose.{Purpose}
use Rattle.map_build.specs.declared.purpose.Purpose.TheVariants.{Poll, UnsolicitedGrant, Offer, DataGrant, Idle}
use Rattle.map_build.specs.Purpose.{is_data_grant}
use Rattle.map_build.specs.Plan.{Demand, next_stop, grants_in, end_of, most_grants, Stands, IsOfClass}
use Rattle.map_build.proofs.FlowsAfter.{allocation}
use Rattle.map_build.proofs.Offers.{unmet, unmet-most, unmet-push, unmet-fewer, unmet-test, place-below}
use Rattle.map_build.proofs.Stops.{next_stop-again}

-- a frame's end with one allocation more
pub end_of-push : (c : Config) (plan : List Allocation) (a : Allocation) →
    end_of c (plan ++ a ∷ []) ≡ end_of c plan + a.slots
end_of-push c plan a = omega (arith, sum_by_push (λ (b : Allocation). b.slots) plan a)

-- how many spots begin at this minislot or after it
abbrev spots_from : ℕ → List Spot → ℕ
spots_from n [] = 0
spots_from n (s ∷ spots) = (if nat_le n s.offset then 1 else 0) + spots_from n spots

one_or_none : (b : Bool) → (if b then 1 else 0) ≤ 1
one_or_none true = omega arith
one_or_none false = omega arith

spots_from-most : (n : ℕ) (spots : List Spot) → spots_from n spots ≤ length spots
spots_from-most n [] = omega arith
spots_from-most n (s ∷ spots) = omega (arith, one_or_none (nat_le n s.offset), spots_from-most n spots)

one_later : (m n k : ℕ) → m ≤ n → (if nat_le n k then 1 else 0) ≤ (if nat_le m k then 1 else 0)
one_later m n k le = grind (arith, nat_tests)

spots_from-later : (m n : ℕ) (spots : List Spot) → m ≤ n → spots_from n spots ≤ spots_from m spots
spots_from-later m n [] le = omega arith
spots_from-later m n (s ∷ spots) le = omega (arith, one_later m n s.offset le, spots_from-later m n spots le)

one_less : (m n : ℕ) → m < n → (if nat_le n m then 1 else 0) + 1 ≤ (if nat_le m m then 1 else 0)
one_less m n lt = grind (arith, nat_tests)

-- a spot that begins between two minislots is one fewer
spots_from-fewer : (m n : ℕ) (spots : List Spot) (s : Spot) → Contains spots s → s.offset ≡ m → m < n →
    spots_from n spots + 1 ≤ spots_from m spots
spots_from-fewer m n [] s (k, lt, at) here less = absurd (omega arith)
spots_from-fewer m n (t ∷ spots) s (zero, lt, at) here less =
    let same : t.offset ≡ m = ap (λ (x : Spot). x.offset) at ∙ here in
    rw same (omega (arith, one_less m n less, spots_from-later m n spots (omega arith)))
spots_from-fewer m n (t ∷ spots) s (suc k, lt, at) here less =
    omega (arith, one_later m n t.offset (omega arith), spots_from-fewer m n spots s (k, omega arith, at) here less)

module _ (c : Config) (d : Demand) (bursts : HasBursts c.bursts) where
  -- an idle may stand next, or there is no room for one
  abbrev IsVacant : ℕ → ℕ → Type 0
  IsVacant idles end = (1 ≤ idles) ⊎ (next_stop c d.spots end ≤ end)

  -- the opportunities that wait and are not met
  abbrev left_over : List Allocation → ℕ
  left_over before = unmet before (length d.waiting)

  -- how many more allocations there may be
  abbrev IsFew : ℕ → ℕ → ℕ → ℕ → ℕ → Type 0
  IsFew idles end grants waits more =
      more + grants ≤ most_grants c d.waiting + 2 * spots_from end d.spots + idles + waits

  few-step : (idles : ℕ) (before : List Allocation) (offset slots : ℕ) (purpose : Purpose) (more : ℕ) → 0 < slots →
      grants_in before ≤ most_grants c d.waiting →
      IsVacant idles offset → IsOfClass c d before offset slots purpose →
      ((idles' : ℕ) → grants_in before + grants_in (allocation offset slots purpose ∷ []) ≤ most_grants c d.waiting →
      IsVacant idles' (offset + slots) →
      IsFew idles' (offset + slots) (grants_in before + grants_in (allocation offset slots purpose ∷ []))
      (left_over (before ++ allocation offset slots purpose ∷ [])) more) →
      IsFew idles offset (grants_in before) (left_over before) (1 + more)
  few-step idles before offset slots (Poll sid) more some few vacant stands rest =
      omega (
        arith,
        rest 1 (omega arith) (inl (omega arith)),
        spots_from-fewer offset (offset + slots) d.spots _ stands refl (omega arith),
        unmet-push before (allocation offset slots (Poll sid)) (length d.waiting),
      )
  few-step idles before offset slots (UnsolicitedGrant sid size) more some few vacant stands rest =
      omega (
        arith,
        rest 1 (omega arith) (inl (omega arith)),
        spots_from-fewer offset (offset + slots) d.spots _ stands refl (omega arith),
        unmet-push before (allocation offset slots (UnsolicitedGrant sid size)) (length d.waiting),
      )
  few-step idles before offset slots (Offer place usage) more some few vacant stands rest = elim vacant [
    | inl one ↦ omega (
      arith,
      rest idles (omega arith) (inl one),
      spots_from-later offset (offset + slots) d.spots (omega arith),
      unmet-fewer before (allocation offset slots (Offer place usage)) place (length d.waiting) refl
          (unmet-test before place stands.may.unmet) (place-below d.waiting place _ stands.may.waits),
    )
    | inr full ↦ absurd (omega (arith, stands.may.fits))
  ]
  few-step idles before offset slots (DataGrant sid bytes) more some few vacant stands rest = elim vacant [
    | inl one ↦ omega (
      arith,
      rest idles (omega (arith, stands.0)) (inl one),
      spots_from-later offset (offset + slots) d.spots (omega arith),
      unmet-push before (allocation offset slots (DataGrant sid bytes)) (length d.waiting),
    )
    | inr full ↦ absurd (omega (arith, stands.4.allowed.taken.fits))
  ]
  few-step idles before offset slots Idle more some few vacant stands rest = elim vacant [
    | inl one ↦ (
        let stop : offset + slots ≡ next_stop c d.spots offset = omega (arith, stands) in
        let full : next_stop c d.spots (offset + slots) ≤ offset + slots = rw stop (next_stop-again c d.spots offset) in
        omega (
          arith,
          rest 0 (omega arith) (inr full),
          spots_from-later offset (offset + slots) d.spots (omega arith),
          unmet-push before (allocation offset slots Idle) (length d.waiting),
        ))
    | inr full ↦ absurd (omega (arith, stands))
  ]

  few-allocations : (idles : ℕ) (before plan : List Allocation) → grants_in before ≤ most_grants c d.waiting →
      IsVacant idles (end_of c before) → EachAfter (Stands c d) before plan →
      IsFew idles (end_of c before) (grants_in before) (left_over before) (length plan)
  few-allocations idles before [] few vacant each = omega arith
  few-allocations idles before (a ∷ plan) few vacant each =
      let end : end_of c (before ++ a ∷ []) ≡ a.offset + a.slots =
      omega (arith, each.0.follows, end_of-push c before a) in
      let grants : grants_in (before ++ a ∷ []) ≡ grants_in before + grants_in (a ∷ []) =
      omega (arith, sum_by_push (λ (b : Allocation). if is_data_grant b.purpose then 1 else 0) before a) in
      let rest : (idles' : ℕ) → grants_in before + grants_in (a ∷ []) ≤ most_grants c d.waiting
      → IsVacant idles' (a.offset + a.slots) →
      IsFew idles' (a.offset + a.slots) (grants_in before + grants_in (a ∷ [])) (left_over (before ++ a ∷ []))
      (length plan) =
      λ idles' few' vacant'. rw (← end, ← grants) (few-allocations idles' (before ++ a ∷ []) plan (rw grants few')
      (rw end vacant') each.1) in
      let step : IsFew idles a.offset (grants_in before) (left_over before) (1 + length plan) =
      few-step idles before a.offset a.slots a.purpose (length plan) each.0.some_slots few (rw each.0.follows vacant)
      each.0.purpose rest in
      rw (← each.0.follows) (omega (arith, step))

  -- a lawful plan has at most so many data grants and opportunities, the spots, and one idle more than spots
  pub length-plan : (plan : List Allocation) → length d.waiting ≤ MAX_WAITING → c.pending ≤ 125 → EachAfter (Stands c d) [] plan →
      length plan ≤ min MAX_DATA_GRANTS (MAX_GRANTS_AND_PENDING - c.pending) + 2 * length d.spots + 1
  length-plan plan few pending each = omega (
    arith,
    few-allocations 1 [] plan (omega arith) (inl (omega arith)) each,
    spots_from-most (end_of c []) d.spots,
    unmet-most [] (length d.waiting),
  )
