-- Worked examples of lawful placements, and of some that are not lawful.
use Rattle.std.proofs.Common.{◌≡◌, ℕ, ◌+◌, ◌%◌, ◌<◌, None, Some, List, false, [], ◌∷◌, refl, sym, subst, inl, inr, lit<}
use Rattle.std.proofs.Common.{lit≤, arith}
use Rattle.std.proofs.lemmas.Bool.{cases_lt}
use Rattle.minislots.specs.declared.config.Config.{Config}
use Rattle.sched_calls.specs.declared.spec.FlowSpec.{FlowSpec}
use Rattle.sched_calls.specs.declared.spec.FlowSpec.TheVariants.{Unsolicited, Polled}
use Rattle.sched_calls.specs.FlowSpec.{jitter_slots, periodic_slots, grants_of}
use Rattle.sched_calls.proofs.Base.{base}
use Rattle.sched_calls.specs.declared.placement.Placement.{Placement}
use Rattle.periodic.specs.declared.placement.Spot.{Spot}
use Rattle.periodic.specs.Placement.{Placed, IsLawfulStart, AreLawfulStarts, IsPlacement, starts_in}
use Rattle.periodic.specs.Placement.{offset_of, spots_in}
use Rattle.periodic.proofs.Counting.{few-grants}

-- grants of 200 bytes, 15 minislots, each ten frames, at most 32 minislots late
abbrev pub voice : FlowSpec
voice = Unsolicited 200 10000 800 1

-- a placement whose first nominal time is there
abbrev pub placement : ℕ → List ℕ → Placement
placement reference starts = record { reference = reference; starts = starts }

-- what holds of two frames of a cycle of twenty holds of all of their phase
pub each-of-two : (P : ℕ → Type 0) (phase : ℕ) → phase < 10 → P phase → P (phase + 10)
    → (place : ℕ) → place < 20 → place % 10 ≡ phase → P place
each-of-two P phase low first second place within nominal = elim (cases_lt place 10) [
  | inl early ↦ (let same : phase ≡ place = omega arith in subst P same first)
  | inr late ↦ (let same : phase + 10 ≡ place = omega arith in subst P same second)
]

-- what holds of four
each-of-four : (P : ℕ → Type 0) → P 0 → P 5 → P 10 → P 15 → (place : ℕ) → place < 20 → place % 5 ≡ 0 → P place
each-of-four P first second third fourth place within nominal = elim (cases_lt place 10) [
  | inl early ↦ elim (cases_lt place 5) [
    | inl low ↦ (let same : 0 ≡ place = omega arith in subst P same first)
    | inr high ↦ (let same : 5 ≡ place = omega arith in subst P same second)
  ]
  | inr late ↦ elim (cases_lt place 15) [
    | inl low ↦ (let same : 10 ≡ place = omega arith in subst P same third)
    | inr high ↦ (let same : 15 ≡ place = omega arith in subst P same fourth)
  ]
]

-- the one start of a flow with one grant per interval
pub one-start : (c : Config) (spec : FlowSpec) (offset : ℕ) (spots : List Spot) (start : ℕ) → grants_of spec ≡ 1
    → IsLawfulStart c (jitter_slots c spec) (periodic_slots c spec) offset spots start
    → AreLawfulStarts c spec offset spots (start ∷ [])
one-start c spec offset spots start one is =
    record { count = sym one; in_turn = (is.after_nominal, tt); each = (is, tt) }

-- the starts of a placement in a frame beside these flows
abbrev pub AreLawfulAt : FlowSpec → Placement → List Placed → ℕ → Type 0
AreLawfulAt spec p table place =
    AreLawfulStarts base spec (offset_of base p) (spots_in base place table) (starts_in base spec p place)

-- the first of these flows stands behind the request region
pub the_first_flow_stands_behind_the_requests : IsPlacement base [] voice 800 (placement 804 (4 ∷ 4 ∷ []))
the_first_flow_stands_behind_the_requests = record {
  not_before = lit≤ tt;
  first = lit< tt;
  after_requests = lit≤ tt;
  starts = record {
    count = refl;
    each = each-of-two (AreLawfulAt voice (placement 804 (4 ∷ 4 ∷ [])) []) 0 (lit< tt) here here;
  };
  few = few-grants base [] voice (placement 804 (4 ∷ 4 ∷ [])) (lit≤ tt);
} where
  here : AreLawfulStarts base voice 4 [] (4 ∷ [])
  here = one-start base voice 4 [] 4 refl
      (record { after_nominal = lit≤ tt; within_jitter = lit≤ tt; within_frame = lit≤ tt; free = tt })

-- the first flow's place
abbrev pub first_placed : Placed
first_placed = record { sid = 5; spec = voice; placement = placement 804 (4 ∷ 4 ∷ []); rests = false }

-- a grant of these flows in a frame
abbrev pub voice_at : ℕ → ℕ → Spot
voice_at sid offset = record { sid = sid; size = Some 200; offset = offset; slots = 15 }

-- the second stands behind the first in the same frames
pub the_second_flow_stands_behind_the_first : IsPlacement base (first_placed ∷ []) voice 800
    (placement 804 (19 ∷ 19 ∷ []))
the_second_flow_stands_behind_the_first = record {
  not_before = lit≤ tt;
  first = lit< tt;
  after_requests = lit≤ tt;
  starts = record {
    count = refl;
    each = each-of-two (AreLawfulAt voice (placement 804 (19 ∷ 19 ∷ [])) (first_placed ∷ [])) 0 (lit< tt) here here;
  };
  few = few-grants base (first_placed ∷ []) voice (placement 804 (19 ∷ 19 ∷ [])) (lit≤ tt);
} where
  here : AreLawfulStarts base voice 4 (voice_at 5 4 ∷ []) (19 ∷ [])
  here = one-start base voice 4 (voice_at 5 4 ∷ []) 19 refl (record {
    after_nominal = lit≤ tt;
    within_jitter = lit≤ tt;
    within_frame = lit≤ tt;
    free = (inr (lit≤ tt), tt);
  })

-- at 5 it would overlap the first
pub a_placement_that_overlaps_is_not_lawful : IsPlacement base (first_placed ∷ []) voice 800
    (placement 804 (5 ∷ 5 ∷ [])) → ⊥
a_placement_that_overlaps_is_not_lawful p =
    elim (p.starts.each 0 (lit< tt) refl).each.0.free.0 [ inl before ↦ omega arith | inr after ↦ omega arith ]

-- one start for two frames is no placement
pub a_placement_with_a_start_too_few_is_not_lawful : IsPlacement base [] voice 800 (placement 804 (4 ∷ [])) → ⊥
a_placement_with_a_start_too_few_is_not_lawful p = absurd (omega (arith, p.starts.count))

-- the second flow's place
abbrev pub second_placed : Placed
second_placed = record { sid = 6; spec = voice; placement = placement 804 (19 ∷ 19 ∷ []); rests = false }

-- what the two take of the first frame
pub the_spots_of_two_flows : spots_in base 20 (first_placed ∷ second_placed ∷ []) ≡ voice_at 5 4 ∷ voice_at 6 19 ∷ []
the_spots_of_two_flows = refl

-- the third stands in the next frame
pub the_third_flow_stands_a_frame_later : IsPlacement base (first_placed ∷ second_placed ∷ []) voice 800
    (placement 844 (4 ∷ 4 ∷ []))
the_third_flow_stands_a_frame_later = record {
  not_before = lit≤ tt;
  first = lit< tt;
  after_requests = lit≤ tt;
  starts = record {
    count = refl;
    each = each-of-two (AreLawfulAt voice (placement 844 (4 ∷ 4 ∷ [])) (first_placed ∷ second_placed ∷ [])) 1 (lit< tt)
        here here;
  };
  few = few-grants base (first_placed ∷ second_placed ∷ []) voice (placement 844 (4 ∷ 4 ∷ [])) (lit≤ tt);
} where
  here : AreLawfulStarts base voice 4 [] (4 ∷ [])
  here = one-start base voice 4 [] 4 refl
      (record { after_nominal = lit≤ tt; within_jitter = lit≤ tt; within_frame = lit≤ tt; free = tt })

-- polls each five frames, without jitter
abbrev pub polling : FlowSpec
polling = Polled 5000 0 0 0 0

-- four polls in a cycle
pub four_polls_stand_behind_the_requests : IsPlacement base [] polling 800 (placement 804 (4 ∷ 4 ∷ 4 ∷ 4 ∷ []))
four_polls_stand_behind_the_requests = record {
  not_before = lit≤ tt;
  first = lit< tt;
  after_requests = lit≤ tt;
  starts = record {
    count = refl;
    each = each-of-four (AreLawfulAt polling (placement 804 (4 ∷ 4 ∷ 4 ∷ 4 ∷ [])) []) here here here here;
  };
  few = few-grants base [] polling (placement 804 (4 ∷ 4 ∷ 4 ∷ 4 ∷ [])) (lit≤ tt);
} where
  here : AreLawfulStarts base polling 4 [] (4 ∷ [])
  here = one-start base polling 4 [] 4 refl
      (record { after_nominal = lit≤ tt; within_jitter = lit≤ tt; within_frame = lit≤ tt; free = tt })

-- the polled flow's place
abbrev pub polled_placed : Placed
polled_placed = record { sid = 9; spec = polling; placement = placement 804 (4 ∷ 4 ∷ 4 ∷ 4 ∷ []); rests = false }

-- it takes two minislots of the first frame, and nothing of the next
pub the_spots_of_a_polled_flow : (spots_in base 20 (polled_placed ∷ [])
    ≡ record { sid = 9; size = None; offset = 4; slots = 2 } ∷ []) × (spots_in base 21 (polled_placed ∷ []) ≡ [])
the_spots_of_a_polled_flow = (refl, refl)

-- polls each five frames, at most 100 microseconds late: 4 minislots
abbrev pub late_polling : FlowSpec
late_polling = Polled 5000 100 0 0 0

-- where the first flow's grant stands at its nominal time, a poll starts behind it, after that time by its jitter
pub a_poll_starts_late_by_its_jitter : IsPlacement base (first_placed ∷ []) late_polling 800
    (placement 815 (19 ∷ 15 ∷ 19 ∷ 15 ∷ []))
a_poll_starts_late_by_its_jitter = record {
  not_before = lit≤ tt;
  first = lit< tt;
  after_requests = lit≤ tt;
  starts = record {
    count = refl;
    each = each-of-four (AreLawfulAt late_polling (placement 815 (19 ∷ 15 ∷ 19 ∷ 15 ∷ [])) (first_placed ∷ [])) behind
        alone behind alone;
  };
  few = few-grants base (first_placed ∷ []) late_polling (placement 815 (19 ∷ 15 ∷ 19 ∷ 15 ∷ [])) (lit≤ tt);
} where
  behind : AreLawfulStarts base late_polling 15 (voice_at 5 4 ∷ []) (19 ∷ [])
  behind = one-start base late_polling 15 (voice_at 5 4 ∷ []) 19 refl (record {
    after_nominal = lit≤ tt;
    within_jitter = lit≤ tt;
    within_frame = lit≤ tt;
    free = (inr (lit≤ tt), tt);
  })

  alone : AreLawfulStarts base late_polling 15 [] (15 ∷ [])
  alone = one-start base late_polling 15 [] 15 refl
      (record { after_nominal = lit≤ tt; within_jitter = lit≤ tt; within_frame = lit≤ tt; free = tt })

-- it does not start a minislot later than that
pub a_poll_does_not_start_after_its_jitter : IsPlacement base (first_placed ∷ []) late_polling 800
    (placement 814 (19 ∷ 14 ∷ 19 ∷ 14 ∷ [])) → ⊥
a_poll_does_not_start_after_its_jitter p =
    absurd (omega (arith, (p.starts.each 0 (lit< tt) refl).each.0.within_jitter))
