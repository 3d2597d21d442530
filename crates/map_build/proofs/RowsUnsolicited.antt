-- Worked examples of lawful MAPs with unsolicited grants.
use Rattle.std.proofs.Common.{◌≡◌, ℕ, List, [], ◌∷◌, map, refl, inr, lit<, arith}
use Rattle.map_codec.specs.Element.{word_of}
use Rattle.flow_book.specs.Flows.{LiveFlow}
use Rattle.flow_book.specs.Book.{new_flow}
use Rattle.periodic.specs.declared.placement.Spot.{Spot}
use Rattle.sched_calls.specs.declared.frame_map.FrameMap.{FrameMap}
use Rattle.map_build.specs.declared.purpose.Allocation.{Allocation}
use Rattle.map_build.specs.declared.purpose.Purpose.TheVariants.{UnsolicitedGrant, Idle}
use Rattle.sched_calls.specs.Header.{header_of}
use Rattle.map_build.specs.Plan.{demand_at}
use Rattle.map_build.specs.FrameMap.{IsLawfulMap}
use Rattle.sched_calls.proofs.Base.{base}
use Rattle.periodic.proofs.RowsPlacement.{voice, voice_at}
use Rattle.periodic.proofs.RowsGrants.{double_voice}
use Rattle.map_build.proofs.FlowsAfter.{allocation}
use Rattle.sched_calls.proofs.BaseMaps.{element, base_map}
use Rattle.map_build.proofs.RowsMaps.{none_waits}

-- an unsolicited flow
abbrev voice_flow : ℕ → LiveFlow
voice_flow sid = new_flow sid voice

-- the unsolicited flows 5 and 6
abbrev pub voices : List LiveFlow
voices = voice_flow 5 ∷ voice_flow 6 ∷ []

-- what they take of the frame: 15 minislots each
abbrev pub their_spots : List Spot
their_spots = voice_at 5 4 ∷ voice_at 6 19 ∷ []

-- the frame with both grants, and the rest idle
abbrev two_grants : List Allocation
two_grants = allocation 4 15 (UnsolicitedGrant 5 200) ∷ allocation 19 15 (UnsolicitedGrant 6 200) ∷ allocation 34 6 Idle ∷ []

-- the MAP of the frame
abbrev pub unsolicited_map : FrameMap
unsolicited_map =
    base_map 800 800 (element 0x3fff 1 0 ∷ element 5 6 4 ∷ element 6 6 19 ∷ element 0 6 34 ∷ element 0 7 40 ∷ [])
    (0 ∷ 0 ∷ 0 ∷ 0 ∷ 0 ∷ [])

-- it is lawful
pub a_frame_with_unsolicited_grants : IsLawfulMap base
    (demand_at voices their_spots [] 800) (header_of base)
    800 unsolicited_map
a_frame_with_unsolicited_grants = (
  two_grants,
  record {
    each = (
      record { some_slots = lit< tt; follows = refl; purpose = (0, lit< tt, refl); first = tt },
      (
        record { some_slots = lit< tt; follows = refl; purpose = (1, lit< tt, refl); first = tt },
        (
          record {
            some_slots = lit< tt;
            follows = refl;
            purpose = refl;
            first = (
              lit< tt,
              (
                none_waits _ _,
                (inr ((λ e. absurd (omega (arith, e.waits))), ((λ e. absurd (omega (arith, e.waits))), tt)), tt),
              ),
            );
          },
          tt,
        ),
      ),
    );
    whole = λ _. refl;
    due = λ _. ((0, lit< tt, refl), ((1, lit< tt, refl), tt));
    quiet = λ on. absurd (cc);
  },
  refl,
)

-- its elements are the request region, the two grants, an idle and the Null
pub the_words_of_a_frame_with_unsolicited_grants : map word_of unsolicited_map.wire.elements
    ≡ 0xfffc4000 ∷ 0x00158004 ∷ 0x00198013 ∷ 0x00018022 ∷ 0x0001c028 ∷ []
the_words_of_a_frame_with_unsolicited_grants = refl

-- the unsolicited flow 5 with two grants in an interval
abbrev pub double_voices : List LiveFlow
double_voices = new_flow 5 double_voice ∷ []

-- the MAP of a frame with both
abbrev pub double_map : FrameMap
double_map =
    base_map 800 800 (element 0x3fff 1 0 ∷ element 5 6 4 ∷ element 5 6 19 ∷ element 0 6 34 ∷ element 0 7 40 ∷ [])
    (0 ∷ 0 ∷ 0 ∷ 0 ∷ 0 ∷ [])

-- it is lawful
pub a_frame_with_two_grants_of_a_flow : IsLawfulMap base
    (demand_at double_voices (voice_at 5 4 ∷ voice_at 5 19 ∷ []) [] 800) (header_of base)
    800 double_map
a_frame_with_two_grants_of_a_flow = (
  allocation 4 15 (UnsolicitedGrant 5 200) ∷ allocation 19 15 (UnsolicitedGrant 5 200) ∷ allocation 34 6 Idle ∷ [],
  record {
    each = (
      record { some_slots = lit< tt; follows = refl; purpose = (0, lit< tt, refl); first = tt },
      (
        record { some_slots = lit< tt; follows = refl; purpose = (1, lit< tt, refl); first = tt },
        (
          record {
            some_slots = lit< tt;
            follows = refl;
            purpose = refl;
            first = (lit< tt, (none_waits _ _, (inr ((λ e. absurd (omega (arith, e.waits))), tt), tt)));
          },
          tt,
        ),
      ),
    );
    whole = λ _. refl;
    due = λ _. ((0, lit< tt, refl), ((1, lit< tt, refl), tt));
    quiet = λ on. absurd (cc);
  },
  refl,
)

-- its elements
pub the_words_of_a_frame_with_two_grants_of_a_flow : map word_of double_map.wire.elements
    ≡ 0xfffc4000 ∷ 0x00158004 ∷ 0x00158013 ∷ 0x00018022 ∷ 0x0001c028 ∷ []
the_words_of_a_frame_with_two_grants_of_a_flow = refl
