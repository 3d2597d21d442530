-- The placements of a legal history have few starts, and small ones.
use Rattle.std.proofs.Common.{◌≡◌, ℕ, zero, suc, ◌+◌, ◌*◌, ◌/◌, ◌%◌, ◌^◌, ◌<◌, ◌≤◌, List, [], ◌∷◌, length, take, drop}
use Rattle.std.proofs.Common.{sym, ap, ◌∙◌, subst, arith, length-drop}
use Rattle.std.specs.List.{AllByRecursion}
use Rattle.std.proofs.lemmas.Nat.{mul-le}
use Rattle.std.proofs.lemmas.List.{take-append-drop, drop-drop}
use Rattle.minislots.specs.declared.config.Config.{Config}
use Rattle.minislots.specs.Config.{HasBounds}
use Rattle.sched_calls.specs.declared.spec.FlowSpec.{FlowSpec}
use Rattle.sched_calls.specs.FlowSpec.{interval_frames, jitter_slots, periodic_slots, grants_of}
use Rattle.sched_calls.specs.declared.placement.Placement.{Placement}
use Rattle.periodic.specs.Placement.{Placed, IsPlacement, IsLawfulStart, group_at, starts_in, phase_of, offset_of}
use Rattle.periodic.specs.Placement.{spots_in}
use Rattle.periodic.proofs.Choosing.{starts-at}
use Rattle.periodic.proofs.Groups.{frame-phase, frame-index, frame-within, groups-most}
use Rattle.periodic.proofs.Joined.{all-append, all-weaker}
use Rattle.periodic.proofs.Parameters.{HasPlaces}

group-later : (size index : ℕ) (xs : List ℕ) → group_at size (suc index) xs ≡ group_at size index (drop size xs)
group-later size index xs =
    let behind : suc index * size ≡ size + index * size = omega arith in
    ap (λ n. take size (drop n xs)) behind ∙ ap (take size) (sym (drop-drop (index * size) size xs))

-- what holds of each group holds of all
all-groups : (P : ℕ → Type 0) (size count : ℕ) (xs : List ℕ) → length xs ≡ count * size
    → ((index : ℕ) → index < count → AllByRecursion P (group_at size index xs)) → AllByRecursion P xs
all-groups P size zero [] long each = tt
all-groups P size zero (x ∷ xs) long each = absurd (omega arith)
all-groups P size (suc count) xs long each =
    let none : 0 * size ≡ 0 = omega arith in
    let front : AllByRecursion P (take size xs) =
    subst (λ n. AllByRecursion P (take size (drop n xs))) none (each 0 (omega arith)) in
    let behind : AllByRecursion P (drop size xs) =
    all-groups P size count (drop size xs) (omega (arith, long, length-drop size xs))
    (λ index below. subst (AllByRecursion P) (group-later size index xs) (each (suc index) (omega arith))) in
    subst (AllByRecursion P) (take-append-drop size xs) (all-append P (take size xs) (drop size xs) front behind)

module _ (c : Config) (bounds : HasBounds c) (table : List Placed) (spec : FlowSpec) (places : HasPlaces c spec)
    (next : ℕ) (p : Placement) (is : IsPlacement c table spec next p) where
  -- there are at most 512
  pub starts-few : length p.starts ≤ 512
  starts-few = omega (
    arith,
    is.starts.count,
    groups-most c.cycle (interval_frames c spec) (grants_of spec) bounds.cycle_most places.grants_most,
  )

  group-small : (index : ℕ) → index < c.cycle / interval_frames c spec
      → AllByRecursion (λ start. start < 2 ^ 16) (group_at (grants_of spec) index p.starts)
  group-small index below =
      let f = interval_frames c spec in
      let phase = phase_of c spec p in
      let within : phase < f = omega (arith, places.interval_positive) in
      let place = phase + index * f in
      let nominal : place % f ≡ phase = frame-phase f phase within index in
      let group : starts_in c spec p place ≡ group_at (grants_of spec) index p.starts =
      starts-at c spec p place nominal
      ∙ ap (λ n. group_at (grants_of spec) n p.starts) (frame-index f phase within index) in
      subst (AllByRecursion (λ start. start < 2 ^ 16)) group
      (all-weaker
      (IsLawfulStart c (jitter_slots c spec) (periodic_slots c spec) (offset_of c p) (spots_in c place table))
      (λ start. start < 2 ^ 16) (λ start lawful. omega (arith, lawful.within_frame, bounds.frame_most))
      (starts_in c spec p place)
      (is.starts.each place (frame-within f phase within c.cycle index places.divides below) nominal).each)

  -- each is a number of 16 bits
  pub starts-small : AllByRecursion (λ start. start < 2 ^ 16) p.starts
  starts-small = all-groups (λ start. start < 2 ^ 16) (grants_of spec) (c.cycle / interval_frames c spec) p.starts
      is.starts.count group-small

  -- the first nominal time is at most 65536 minislots behind the next frame
  pub reference-near : p.reference < next + 65536
  reference-near = omega (
    arith,
    is.first,
    mul-le (interval_frames c spec) c.frame 64 1024 places.interval_most bounds.frame_most,
  )
