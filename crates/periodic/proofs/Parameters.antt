-- What parameters without a fault keep to.
use Rattle.std.proofs.Common.{◌≡◌, refl, ℕ, ◌+◌, ◌-◌, ◌/◌, ◌%◌, ◌<◌, ◌≤◌, Bool, true, false, not, cond, ◌||◌, nat_lt}
use Rattle.std.proofs.Common.{◌==◌, List, [], ◌∷◌, Option, Some, None, inl, inr, arith}
use Rattle.std.proofs.lemmas.Bool.{or_parts, ltb-false, cases_lt}
use Rattle.std.proofs.lemmas.Bool.Decides.{nat_tests}
use Rattle.std.proofs.lemmas.Nat.{le-div}
use Rattle.std.proofs.Math.Nat.{mod-eq_of_lt}
use Rattle.minislots.specs.declared.config.Config.{Config}
use Rattle.minislots.specs.Config.{IsLawful}
use Rattle.minislots.specs.Units.{slots_floor, slots_for_unsolicited}
use Rattle.minislots.proofs.Bounds.{bounds_of}
use Rattle.minislots.proofs.UnitLaws.{slots_for_unsolicited-positive}
use Rattle.sched_calls.specs.declared.spec.FlowSpec.{FlowSpec}
use Rattle.sched_calls.specs.declared.spec.FlowSpec.TheVariants.{Unsolicited, Polled, BestEffort}
use Rattle.sched_calls.specs.declared.spec.FlowFault.{FlowFault}
use Rattle.sched_calls.specs.declared.TheConstants.{MAX_GRANTS}
use Rattle.sched_calls.specs.FlowSpec.{is_periodic, interval_frames, periodic_slots, grants_of, has_fault, faults}
use Rattle.sched_calls.specs.FlowSpec.{first_fault}
use Rattle.sched_calls.specs.FlowSpec.{first_fault_of}

-- What is known of a periodic flow's parameters
pub record HasPlaces (c : Config) (spec : FlowSpec) : Type 0 where
  pub interval_positive : 0 < interval_frames c spec
  pub divides : c.cycle % interval_frames c spec ≡ 0
  pub interval_most : interval_frames c spec ≤ 64
  pub not_empty : 0 < periodic_slots c spec
  pub fits : periodic_slots c spec + c.req_slots ≤ c.frame
  pub grants_positive : 0 < grants_of spec
  pub grants_most : grants_of spec ≤ 8

abbrev HaveNone : Config → FlowSpec → List FlowFault → Type 0
HaveNone c spec [] = Unit {0}
HaveNone c spec (fault ∷ some) = (has_fault c spec fault ≡ false) × HaveNone c spec some

not_found : {X : Type 0} (b : Bool) (x : X) (rest : Option X) → cond b (Some x) rest ≡ None
    → (b ≡ false) × (rest ≡ None)
not_found true x rest h = absurd (cc)
not_found false x rest h = (refl, h)

have-none : (c : Config) (spec : FlowSpec) (some : List FlowFault) → first_fault_of c spec some ≡ None
    → HaveNone c spec some
have-none c spec [] h = tt
have-none c spec (fault ∷ some) h =
    let both : (has_fault c spec fault ≡ false) × (first_fault_of c spec some ≡ None) =
    not_found (has_fault c spec fault) fault (first_fault_of c spec some) h in
    (both.0, have-none c spec some both.1)

each-none : (c : Config) (spec : FlowSpec) → first_fault c spec ≡ None → HaveNone c spec faults
unfolding first_fault
each-none c spec h = have-none c spec faults h

whole-frames : (slots frame : ℕ) → 0 < frame → ((slots == 0) || not (slots % frame == 0)) ≡ false → 0 < slots / frame
whole-frames slots frame some h =
    let parts = or_parts (slots == 0) (not (slots % frame == 0)) h in
    let positive : 0 < slots = grind (arith, nat_tests) in
    let whole : slots % frame ≡ 0 = grind (arith, nat_tests) in
    elim (cases_lt slots frame) [
      | inl short ↦ absurd (omega (arith, mod-eq_of_lt short))
      | inr long ↦ le-div 1 slots frame some (omega arith)
    ]

divides-of : (cycle interval : ℕ) → not (cycle % interval == 0) ≡ false → cycle % interval ≡ 0
divides-of cycle interval h = grind (arith, nat_tests)

most-of : (cycle interval : ℕ) → 0 < cycle → cycle ≤ 64 → not (cycle % interval == 0) ≡ false → interval ≤ 64
most-of cycle interval some most h = elim (cases_lt cycle interval) [
  | inl long ↦ absurd (omega (arith, mod-eq_of_lt long, divides-of cycle interval h))
  | inr short ↦ omega arith
]

fits-of : (frame requests slots size : ℕ) → requests ≤ frame → ((size == 0) || nat_lt (frame - requests) slots) ≡ false
    → slots + requests ≤ frame
fits-of frame requests slots size within h =
    let parts = or_parts (size == 0) (nat_lt (frame - requests) slots) h in
    omega (arith, ltb-false (frame - requests) slots parts.1)

some-of : (size : ℕ) (is_long : Bool) → ((size == 0) || is_long) ≡ false → 0 < size
some-of size is_long h = let parts = or_parts (size == 0) is_long h in grind (arith, nat_tests)

grants-of : (grants : ℕ) → ((grants == 0) || nat_lt MAX_GRANTS grants) ≡ false → (0 < grants) × (grants ≤ 8)
grants-of grants h =
    let parts = or_parts (grants == 0) (nat_lt MAX_GRANTS grants) h in
    (grind (arith, nat_tests), omega (arith, ltb-false MAX_GRANTS grants parts.1))

-- a periodic flow's parameters without a fault keep to these
pub places_of : (c : Config) (spec : FlowSpec) → IsLawful c → is_periodic spec ≡ true → first_fault c spec ≡ None
    → HasPlaces c spec
places_of c (Unsolicited size interval jitter grants) lawful periodic none =
    let (fits, (whole, (frames, (cycle, (priority, (burst, (count, rest))))))) =
    each-none c (Unsolicited size interval jitter grants) none in
    let some = grants-of grants count in
    let bounds = bounds_of c lawful in
    record {
      interval_positive = whole-frames (slots_floor c interval) c.frame (omega arith) frames;
      divides = divides-of c.cycle (slots_floor c interval / c.frame) cycle;
      interval_most = most-of c.cycle (slots_floor c interval / c.frame) (omega arith) (omega arith) cycle;
      not_empty = slots_for_unsolicited-positive c bounds.bursts size (some-of size _ fits);
      fits = fits-of c.frame c.req_slots (slots_for_unsolicited c size) size (omega arith) fits;
      grants_positive = some.0;
      grants_most = some.1;
    }
places_of c (Polled interval jitter rate burst peak) lawful periodic none =
    let (fits, (whole, (frames, (cycle, rest)))) = each-none c (Polled interval jitter rate burst peak) none in
    let bounds = bounds_of c lawful in
    record {
      interval_positive = whole-frames (slots_floor c interval) c.frame (omega arith) frames;
      divides = divides-of c.cycle (slots_floor c interval / c.frame) cycle;
      interval_most = most-of c.cycle (slots_floor c interval / c.frame) (omega arith) (omega arith) cycle;
      not_empty = omega arith;
      fits = omega arith;
      grants_positive = omega arith;
      grants_most = omega arith;
    }
places_of c (BestEffort priority rate burst peak reserved reserved-burst) lawful periodic none = absurd (cc)
