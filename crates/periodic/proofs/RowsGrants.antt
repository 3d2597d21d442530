-- Worked examples of placements with two grants in each nominal frame.
use Rattle.std.proofs.Common.{◌≡◌, false, [], ◌∷◌, refl, lit<}
use Rattle.std.proofs.Common.{lit≤, arith}
use Rattle.sched_calls.specs.declared.spec.FlowSpec.{FlowSpec}
use Rattle.sched_calls.specs.declared.spec.FlowSpec.TheVariants.{Unsolicited}
use Rattle.sched_calls.proofs.Base.{base}
use Rattle.periodic.specs.Placement.{AreLawfulStarts, IsPlacement}
use Rattle.periodic.specs.Placement.{spots_in}
use Rattle.periodic.proofs.Counting.{few-grants}
use Rattle.periodic.proofs.RowsPlacement.{placement, each-of-two, AreLawfulAt, voice_at}

-- two grants of 15 minislots in each of these frames, at most 32 minislots late
abbrev pub double_voice : FlowSpec
double_voice = Unsolicited 200 10000 800 2

-- the second grant of a frame stands behind the first
pub two_grants_of_a_frame_stand_one_behind_the_other : IsPlacement base [] double_voice 800
    (placement 804 (4 ∷ 19 ∷ 4 ∷ 19 ∷ []))
two_grants_of_a_frame_stand_one_behind_the_other = record {
  not_before = lit≤ tt;
  first = lit< tt;
  after_requests = lit≤ tt;
  starts = record {
    count = refl;
    each = each-of-two (AreLawfulAt double_voice (placement 804 (4 ∷ 19 ∷ 4 ∷ 19 ∷ [])) []) 0 (lit< tt) here here;
  };
  few = few-grants base [] double_voice (placement 804 (4 ∷ 19 ∷ 4 ∷ 19 ∷ [])) (lit≤ tt);
} where
  here : AreLawfulStarts base double_voice 4 [] (4 ∷ 19 ∷ [])
  here = record {
    count = refl;
    in_turn = (lit≤ tt, (lit≤ tt, tt));
    each = (
      record { after_nominal = lit≤ tt; within_jitter = lit≤ tt; within_frame = lit≤ tt; free = tt },
      (record { after_nominal = lit≤ tt; within_jitter = lit≤ tt; within_frame = lit≤ tt; free = tt }, tt),
    );
  }

-- what they take of the first frame
pub the_spots_of_a_flow_with_two_grants :
    spots_in base 20 (record { sid = 5; spec = double_voice; placement = placement 804 (4 ∷ 19 ∷ 4 ∷ 19 ∷ []); rests = false } ∷ [])
    ≡ voice_at 5 4 ∷ voice_at 5 19 ∷ []
the_spots_of_a_flow_with_two_grants = refl

-- they do not overlap
pub two_grants_that_overlap_are_not_lawful : IsPlacement base [] double_voice 800
    (placement 804 (4 ∷ 18 ∷ 4 ∷ 19 ∷ [])) → ⊥
two_grants_that_overlap_are_not_lawful p = absurd (omega (arith, (p.starts.each 0 (lit< tt) refl).in_turn.1.0))

-- nor stand in another order
pub two_grants_that_descend_are_not_lawful : IsPlacement base [] double_voice 800
    (placement 804 (19 ∷ 4 ∷ 4 ∷ 19 ∷ [])) → ⊥
two_grants_that_descend_are_not_lawful p = absurd (omega (arith, (p.starts.each 0 (lit< tt) refl).in_turn.1.0))
