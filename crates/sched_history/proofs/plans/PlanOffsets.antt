-- The data grants of a plan start within its frame.
use Rattle.std.proofs.Common.{◌≡◌, refl, ℕ, ◌+◌, ◌≤◌, ◌<◌, Bool, true, false, ◌==◌, if◌then◌else◌}
use Rattle.std.proofs.Common.{List, [], ◌∷◌, ◌++◌, None, Some, arith, append_assoc}
use Rattle.std.specs.List.{AllByRecursion, cons_option}
use Rattle.std.proofs.lemmas.List.Sums.{sum_by-append, sum_by-cons}
use Rattle.minislots.specs.declared.config.Config.{Config}
use Rattle.flow_book.specs.declared.flow.Grant.{Grant}
use Rattle.map_build.specs.declared.purpose.Allocation.{Allocation}
use Rattle.map_build.specs.declared.purpose.Purpose.{Purpose}
use Rattle.map_build.specs.declared.purpose.Purpose.TheVariants.{DataGrant}
use Rattle.map_build.specs.EachAfter.{EachAfter}
use Rattle.map_build.specs.Purpose.{grant_to}
use Rattle.map_build.specs.Plan.{Demand, end_of, grants_to, Stands, IsPlan}

-- allocations end where those before them end, and later by their own minislots
end_of-append : (c : Config) (before : List Allocation) (a : Allocation) (plan : List Allocation)
    → end_of c before + a.slots ≤ end_of c (before ++ a ∷ plan)
end_of-append c before a plan =
    omega (
      arith,
      sum_by-append (λ (b : Allocation). b.slots) before (a ∷ plan),
      sum_by-cons (λ (b : Allocation). b.slots) a plan,
    )

module _ (c : Config) (d : Demand) where
  offsets-before : (frame : ℕ) (before plan : List Allocation) → EachAfter (Stands c d) before plan
      → end_of c (before ++ plan) ≤ frame → AllByRecursion (λ a. a.offset < frame) plan
  offsets-before frame before [] each within = tt
  offsets-before frame before (a ∷ plan) each within = (
    omega (arith, each.0.follows, each.0.some_slots, end_of-append c before a plan),
    offsets-before frame (before ++ a ∷ []) plan each.1 (rw append_assoc within),
  )

  -- each allocation of a plan begins within the frame
  pub plan-offsets : (plan : List Allocation) → IsPlan c d plan
      → AllByRecursion (λ a. a.offset < c.frame) plan
  plan-offsets plan is = by-settles d.settles refl
    where
      by-settles : (settles : Bool) → d.settles ≡ settles → AllByRecursion (λ a. a.offset < c.frame) plan
      by-settles true quiet = rw (is.quiet quiet) tt
      by-settles false lasts = offsets-before c.frame [] plan is.each (omega (arith, is.whole lasts))

-- the grant starts before this minislot
abbrev StartsBefore : ℕ → Grant → Type 0
StartsBefore slot g = g.start < slot

chosen-before : (slot : ℕ) (b : Bool) (g : Grant) (grants : List Grant) → g.start < slot
    → AllByRecursion (StartsBefore slot) grants
    → AllByRecursion (StartsBefore slot) (cons_option (if b then Some g else None) grants)
chosen-before slot true g grants here all = (here, all)
chosen-before slot false g grants here all = all

grant-before : (slot start sid : ℕ) (purpose : Purpose) (offset : ℕ) (grants : List Grant) → start + offset < slot
    → AllByRecursion (StartsBefore slot) grants
    → AllByRecursion (StartsBefore slot) (cons_option (grant_to start sid purpose offset) grants)
grant-before slot start sid (DataGrant other bytes) offset grants here all =
    chosen-before slot (other == sid) (record { start = start + offset; bytes = bytes }) grants here all
grant-before slot start sid purpose offset grants here all = all

-- the data grants to a flow start before the frame ends, where each allocation does
pub grants_to-before : (frame start sid : ℕ) (plan : List Allocation) → AllByRecursion (λ a. a.offset < frame) plan
    → AllByRecursion (λ g. g.start < start + frame) (grants_to start sid plan)
grants_to-before frame start sid [] all = tt
grants_to-before frame start sid (a ∷ plan) all =
    grant-before (start + frame) start sid a.purpose a.offset (grants_to start sid plan) (omega (arith, all.0))
    (grants_to-before frame start sid plan all.1)
