-- A place told from the first cycle on, and its starts in each nominal frame.
use Rattle.std.proofs.Common.{◌≡◌, sym, ap, ◌∙◌, subst, ℕ, ◌+◌, ◌*◌, ◌/◌, ◌%◌, ◌<◌, List, [], length, arith}
use Rattle.std.proofs.Math.Nat.{mod-eq_of_lt}
use Rattle.std.proofs.lemmas.Nat.{div-mul-add, mod-mul-add}
use Rattle.minislots.specs.declared.config.Config.{Config}
use Rattle.sched_calls.specs.declared.spec.FlowSpec.{FlowSpec}
use Rattle.sched_calls.specs.declared.state.PlaceState.{PlaceState}
use Rattle.sched_calls.specs.FlowSpec.{interval_frames, jitter_slots, periodic_slots, grants_of}
use Rattle.periodic.specs.Placement.{phase_of, offset_of, group_at, starts_in, FollowFrom, IsLawfulStart}
use Rattle.periodic.specs.Placement.{AreLawfulStarts, HasLawfulStarts}
use Rattle.periodic.proofs.Choosing.{starts-at}
use Rattle.periodic.proofs.Groups.{frame-phase, frame-index, frame-within, index-within}
use Rattle.periodic.proofs.Joined.{all-weaker}
use Rattle.periodic.proofs.Parameters.{HasPlaces}
use Rattle.channel_states.specs.declared.nominal.Nominal.{Nominal}
use Rattle.channel_states.specs.Nominal.{IsNominalOf, IsStartFrom, AreStartsFrom}
use Rattle.periodic.specs.Carried.{placement_of}

module _ (c : Config) (place : PlaceState) (within : place.offset < c.frame) where
  -- the nominal offset is the place's
  pub offset-is : offset_of c (placement_of c place) ≡ place.offset
  offset-is = mod-mul-add place.phase c.frame place.offset within

  -- and so is the phase
  pub phase-is : (spec : FlowSpec) → place.phase < interval_frames c spec
      → phase_of c spec (placement_of c place) ≡ place.phase
  phase-is spec early =
      ap (λ n. n % interval_frames c spec) (div-mul-add place.phase c.frame place.offset within)
      ∙ mod-eq_of_lt early

module _ (c : Config) (spec : FlowSpec) (n : Nominal) (is : IsNominalOf c spec n) (offset : ℕ) where
  start-lawful : (start : ℕ) → IsStartFrom c n offset start
      → IsLawfulStart c (jitter_slots c spec) (periodic_slots c spec) offset [] start
  start-lawful start from = record {
    after_nominal = from.after_nominal;
    within_jitter = omega (arith, from.within_jitter, is.jitter);
    within_frame = omega (arith, from.within_frame, is.slots);
    free = tt;
  }

  start-told : (start : ℕ) → IsLawfulStart c (jitter_slots c spec) (periodic_slots c spec) offset [] start
      → IsStartFrom c n offset start
  start-told start lawful = record {
    after_nominal = lawful.after_nominal;
    within_jitter = omega (arith, lawful.within_jitter, is.jitter);
    within_frame = omega (arith, lawful.within_frame, is.slots);
  }

  frame-lawful : (starts : List ℕ) → AreStartsFrom c n offset starts → AreLawfulStarts c spec offset [] starts
  frame-lawful starts are = record {
    count = are.count ∙ is.grants;
    in_turn = subst (λ m. FollowFrom m offset starts) is.slots are.in_turn;
    each = all-weaker (IsStartFrom c n offset)
        (IsLawfulStart c (jitter_slots c spec) (periodic_slots c spec) offset []) start-lawful starts are.each;
  }

  frame-told : (starts : List ℕ) → AreLawfulStarts c spec offset [] starts → AreStartsFrom c n offset starts
  frame-told starts are = record {
    count = are.count ∙ sym is.grants;
    in_turn = subst (λ m. FollowFrom m offset starts) (sym is.slots) are.in_turn;
    each = all-weaker (IsLawfulStart c (jitter_slots c spec) (periodic_slots c spec) offset [])
        (IsStartFrom c n offset) start-told starts are.each;
  }

module _ (c : Config) (spec : FlowSpec) (n : Nominal) (is : IsNominalOf c spec n) (parts : HasPlaces c spec)
    (place : PlaceState) (early : place.phase < n.interval) (within : place.offset < c.frame) where
  frames : place.phase < interval_frames c spec
  frames = omega (arith, early, is.interval)

  -- starts that are lawful in each frame of the phase, by its index, are those of a lawful placement
  pub starts-lawful : length place.starts ≡ c.cycle / n.interval * n.grants
      → ((index : ℕ) → index < c.cycle / n.interval
      → AreStartsFrom c n place.offset (group_at n.grants index place.starts))
      → HasLawfulStarts c spec (placement_of c place) (λ k. [])
  starts-lawful count each =
      let p = placement_of c place in
      record {
        count = count ∙ ap (λ m. c.cycle / m * n.grants) is.interval
            ∙ ap (λ m. c.cycle / interval_frames c spec * m) is.grants;
        each = λ k low nominal.
            (let index = k / interval_frames c spec in
            let lt = index-within (interval_frames c spec) 0 parts.interval_positive c.cycle k parts.divides low in
            let here = each index (subst (λ m. index < c.cycle / m) (sym is.interval) lt) in
            let there = subst (λ m. AreStartsFrom c n place.offset (group_at m index place.starts)) is.grants here in
            rw (starts-at c spec p k nominal)
            (subst (λ o. AreLawfulStarts c spec o [] (group_at (grants_of spec) index place.starts))
            (sym (offset-is c place within)) (frame-lawful c spec n is place.offset _ there)));
      }

  -- and the other way round
  pub starts-told : HasLawfulStarts c spec (placement_of c place) (λ k. []) → (index : ℕ)
      → index < c.cycle / n.interval → AreStartsFrom c n place.offset (group_at n.grants index place.starts)
  starts-told are index lt =
      let p = placement_of c place in
      let f = interval_frames c spec in
      let k = place.phase + index * f in
      let below : index < c.cycle / f = subst (λ m. index < c.cycle / m) is.interval lt in
      let low = frame-within f place.phase frames c.cycle index parts.divides below in
      let nominal : k % f ≡ phase_of c spec p =
      frame-phase f place.phase frames index ∙ sym (phase-is c place within spec frames) in
      let here = are.each k low nominal in
      let group : starts_in c spec p k ≡ group_at n.grants index place.starts =
      starts-at c spec p k nominal
      ∙ ap (λ m. group_at (grants_of spec) m place.starts) (frame-index f place.phase frames index)
      ∙ ap (λ m. group_at m index place.starts) (sym is.grants) in
      let there = subst (λ o. AreLawfulStarts c spec o [] (starts_in c spec p k)) (offset-is c place within) here in
      subst (AreStartsFrom c n place.offset) group (frame-told c spec n is place.offset _ there)
