-- A placement that stands is told anew, for a flow that may stand at the same place.
use Rattle.std.proofs.Common.{◌≡◌, refl, sym, ap, ◌∙◌, ℕ, ◌/◌, ◌%◌, true, ◌==◌, List, [], map}
use Rattle.std.proofs.Common.{if◌then◌else◌, Option, None, arith}
use Rattle.std.proofs.lemmas.Bool.Decides.{nat_tests}
use Rattle.minislots.specs.declared.config.Config.{Config}
use Rattle.sched_calls.specs.declared.spec.FlowSpec.{FlowSpec}
use Rattle.sched_calls.specs.declared.spec.FlowSpec.TheVariants.{Unsolicited, Polled}
use Rattle.sched_calls.specs.FlowSpec.{is_periodic, has_place_of, size_of, interval_frames, jitter_slots}
use Rattle.sched_calls.specs.FlowSpec.{periodic_slots, grants_of, first_fault}
use Rattle.sched_calls.specs.declared.placement.Placement.{Placement}
use Rattle.periodic.specs.declared.placement.Spot.{Spot}
use Rattle.periodic.specs.Placement.{Placed, phase_of, offset_of, group_at, starts_in, spots_of, spots_in}
use Rattle.periodic.specs.Placement.{AreLawfulStarts, HasLawfulStarts, IsPlacement, IsToldFrom}
use Rattle.periodic.specs.Table.{placed_at, IsSoundPlaced}

-- grants of this size and length at these starts, or polls
abbrev spots_by : ℕ → Option ℕ → ℕ → List ℕ → List Spot
spots_by sid size slots starts =
    map (λ start. record { sid = sid; size = size; offset = start; slots = slots }) starts

-- Two flows are placed in the same way
pub record ArePlacedAlike (c : Config) (old new : FlowSpec) : Type 0 where
  pub periodic : is_periodic new ≡ true
  pub interval : interval_frames c new ≡ interval_frames c old
  pub jitter : jitter_slots c new ≡ jitter_slots c old
  pub slots : periodic_slots c new ≡ periodic_slots c old
  pub grants : grants_of new ≡ grants_of old
  pub size : size_of new ≡ size_of old

unsolicited-alike : (c : Config) (size interval jitter grants size' interval' jitter' grants' : ℕ) → size' ≡ size
    → interval' ≡ interval → jitter' ≡ jitter → grants' ≡ grants
    → ArePlacedAlike c (Unsolicited size interval jitter grants) (Unsolicited size' interval' jitter' grants')
unsolicited-alike c size interval jitter grants size' interval' jitter' grants' sizes intervals jitters all =
    rw (sizes, intervals, jitters, all)
    (record { periodic = refl; interval = refl; jitter = refl; slots = refl; grants = refl; size = refl })

polled-alike : (c : Config) (interval jitter rate burst peak interval' jitter' rate' burst' peak' : ℕ)
    → interval' ≡ interval → jitter' ≡ jitter
    → ArePlacedAlike c (Polled interval jitter rate burst peak) (Polled interval' jitter' rate' burst' peak')
polled-alike c interval jitter rate burst peak interval' jitter' rate' burst' peak' intervals jitters =
    rw (intervals, jitters)
    (record { periodic = refl; interval = refl; jitter = refl; slots = refl; grants = refl; size = refl })

-- those that may stand at one place are
pub alike-placed : (c : Config) (old new : FlowSpec) → has_place_of old new ≡ true → ArePlacedAlike c old new
alike-placed c (Unsolicited size interval jitter grants) (Unsolicited size' interval' jitter' grants') same =
    unsolicited-alike c size interval jitter grants size' interval' jitter' grants' (grind (arith, nat_tests))
    (grind (arith, nat_tests)) (grind (arith, nat_tests)) (grind (arith, nat_tests))
alike-placed c (Polled interval jitter rate burst peak) (Polled interval' jitter' rate' burst' peak') same =
    polled-alike c interval jitter rate burst peak interval' jitter' rate' burst' peak' (grind (arith, nat_tests))
    (grind (arith, nat_tests))
alike-placed c old new same = absurd cc

module _ (c : Config) (old new : FlowSpec) (stands p : Placement) (next : ℕ) (alike : ArePlacedAlike c old new)
    (told : IsToldFrom c new next stands p) where
  phase-told : phase_of c new p ≡ phase_of c old stands
  phase-told = told.phase ∙ ap (λ f. stands.reference / c.frame % f) alike.interval

  -- it has the same starts
  pub starts-told : (place : ℕ) → starts_in c new p place ≡ starts_in c old stands place
  starts-told place =
      let at : ℕ → ℕ → ℕ → List ℕ → List ℕ =
      λ f phase grants starts. if place % f == phase then group_at grants (place / f) starts else [] in
      ap (λ f. at f (phase_of c new p) (grants_of new) p.starts) alike.interval
      ∙ ap (λ phase. at (interval_frames c old) phase (grants_of new) p.starts) phase-told
      ∙ ap (λ grants. at (interval_frames c old) (phase_of c old stands) grants p.starts) alike.grants
      ∙ ap (at (interval_frames c old) (phase_of c old stands) (grants_of old)) told.starts

  lawful-told : (spots : List Spot) (place : ℕ)
      → AreLawfulStarts c old (offset_of c stands) spots (starts_in c old stands place)
      → AreLawfulStarts c new (offset_of c p) spots (starts_in c new p place)
  lawful-told spots place are =
      rw (starts-told place, told.offset) (record {
        count = rw alike.grants are.count;
        in_turn = rw alike.slots are.in_turn;
        each = rw (alike.jitter, alike.slots) are.each;
      })

  -- lawful as before
  pub has_lawful-told : (spots : ℕ → List Spot) → HasLawfulStarts c old stands spots → HasLawfulStarts c new p spots
  has_lawful-told spots has = record {
    count = rw (told.starts, alike.interval, alike.grants) has.count;
    each = λ place within nominal.
        lawful-told (spots place) place
        (has.each place within (ap (λ f. place % f) (sym alike.interval) ∙ nominal ∙ phase-told));
  }

  -- the placement is one as it was
  pub placement-told : (table : List Placed) (since : ℕ) → IsPlacement c table old since stands
      → IsPlacement c table new next p
  placement-told table since is = record {
    not_before = told.not_before;
    first = told.first;
    after_requests = rw told.offset is.after_requests;
    starts = has_lawful-told (λ place. spots_in c place table) is.starts;
    few = λ place within. rw (starts-told place) (is.few place within);
  }

  -- a flow with it takes the same of each frame
  pub spots-told : (k sid : ℕ) (f : Placed) → f.sid ≡ sid → f.spec ≡ old → f.placement ≡ stands
      → spots_of c k (placed_at sid new p) ≡ spots_of c k f
  spots-told k sid f own spec placed =
      let place = k % c.cycle in
      rw (own, spec, placed) (ap (λ size. spots_by sid size (periodic_slots c new) (starts_in c new p place)) alike.size
      ∙ ap (λ slots. spots_by sid (size_of old) slots (starts_in c new p place)) alike.slots
      ∙ ap (spots_by sid (size_of old) (periodic_slots c old)) (starts-told place))

  -- and is sound as it was
  pub sound-told : (f : Placed) → f.spec ≡ old → f.placement ≡ stands → first_fault c new ≡ None → IsSoundPlaced c f
      → IsSoundPlaced c (placed_at f.sid new p)
  sound-told f spec placed none sound = record {
    sid_positive = sound.sid_positive;
    sid_most = sound.sid_most;
    periodic = alike.periodic;
    no_fault = none;
    after_requests = rw (told.offset, ← placed) sound.after_requests;
    starts = has_lawful-told (λ place. []) (rw (spec, placed) at sound.starts);
    polled = λ rests. absurd cc;
  }
