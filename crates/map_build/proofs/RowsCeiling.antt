-- Worked examples of lawful MAPs of a flow at its rate ceiling.
use Rattle.std.proofs.Common.{◌≡◌, List, [], ◌∷◌, map, refl, inr, lit<, arith}
use Rattle.map_codec.specs.Element.{word_of}
use Rattle.sched_calls.specs.declared.frame_map.FrameMap.{FrameMap}
use Rattle.map_build.specs.declared.purpose.Allocation.{Allocation}
use Rattle.map_build.specs.declared.purpose.Purpose.TheVariants.{DataGrant, Idle}
use Rattle.sched_calls.specs.Header.{header_of}
use Rattle.map_build.specs.Plan.{demand_at}
use Rattle.map_build.specs.FrameMap.{IsLawfulMap}
use Rattle.sched_calls.proofs.Base.{base}
use Rattle.flow_book.proofs.RowsCeiling.{under_ceiling, grant, the_second_grant_fills_the_room}
use Rattle.flow_book.proofs.RowsCeiling.{a_flow_with_one_grant_is_next, limited, exhausted}
use Rattle.flow_book.proofs.RowsCeiling.{the_third_grant_is_at_the_ceiling_to_the_byte}
use Rattle.flow_book.proofs.RowsCeiling.{a_flow_below_its_ceiling_is_next, a_flow_at_its_ceiling_is_not_eligible}
use Rattle.map_build.proofs.RowsContention.{filled_by}
use Rattle.map_build.proofs.FlowsAfter.{allocation}
use Rattle.sched_calls.proofs.BaseMaps.{element, base_map}
use Rattle.map_build.proofs.RowsMaps.{all_idle, none_waits}

-- the MAP of the second grant, which fills the room
abbrev pub second_grant : FrameMap
second_grant = base_map 880 800 (element 0x3fff 1 0 ∷ element 17 6 4 ∷ element 0 7 40 ∷ element 17 6 40 ∷ [])
    (0 ∷ 544 ∷ 0 ∷ 0 ∷ [])

-- it is lawful
pub a_second_grant_fills_the_room : IsLawfulMap base
    (demand_at (under_ceiling (grant 844 544 ∷ []) ∷ []) [] [] 880) (header_of base)
    800 second_grant
a_second_grant_fills_the_room = (
  filled_by 17,
  record {
    each = (
      record {
        some_slots = lit< tt;
        follows = refl;
        purpose = (
          lit< tt,
          under_ceiling (grant 844 544 ∷ []),
          refl,
          a_flow_with_one_grant_is_next,
          the_second_grant_fills_the_room,
          refl,
        );
        first = (lit< tt, (none_waits _ _, tt));
      },
      tt,
    );
    whole = λ _. refl;
    due = λ _. tt;
    quiet = λ on. absurd (cc);
  },
  refl,
)

-- the frame with the grant of 528 bytes, and one minislot idle
abbrev third_grant : List Allocation
third_grant = allocation 4 35 (DataGrant 17 528) ∷ allocation 39 1 Idle ∷ []

-- the MAP at the ceiling
abbrev pub ceiling_map : FrameMap
ceiling_map =
    base_map 920 800 (element 0x3fff 1 0 ∷ element 17 6 4 ∷ element 0 6 39 ∷ element 0 7 40 ∷ element 17 6 40 ∷ [])
    (0 ∷ 528 ∷ 0 ∷ 0 ∷ 0 ∷ [])

-- it is lawful
pub a_frame_with_a_grant_at_the_ceiling : IsLawfulMap base
    (demand_at (limited ∷ []) [] [] 920) (header_of base)
    800 ceiling_map
a_frame_with_a_grant_at_the_ceiling = (
  third_grant,
  record {
    each = (
      record {
        some_slots = lit< tt;
        follows = refl;
        purpose = (
          lit< tt,
          limited,
          refl,
          a_flow_below_its_ceiling_is_next,
          the_third_grant_is_at_the_ceiling_to_the_byte,
          refl,
        );
        first = (lit< tt, (none_waits _ _, tt));
      },
      (
        record {
          some_slots = lit< tt;
          follows = refl;
          purpose = refl;
          first = (lit< tt, (none_waits _ _, (inr ((λ e. absurd (omega (arith, e.takes.fits))), tt), tt)));
        },
        tt,
      ),
    );
    whole = λ _. refl;
    due = λ _. tt;
    quiet = λ on. absurd (cc);
  },
  refl,
)

-- its elements are the request region, the grant, an idle, the Null and a pending grant
pub the_words_of_a_frame_with_a_grant_at_the_ceiling : map word_of ceiling_map.wire.elements
    ≡ 0xfffc4000 ∷ 0x00458004 ∷ 0x00018027 ∷ 0x0001c028 ∷ 0x00458028 ∷ []
the_words_of_a_frame_with_a_grant_at_the_ceiling = refl

-- the MAP after it: the flow waits for its level to rise to the quantum
abbrev pub waiting_map : FrameMap
waiting_map = base_map 960 800 (element 0x3fff 1 0 ∷ element 0 6 4 ∷ element 0 7 40 ∷ element 17 6 40 ∷ [])
    (0 ∷ 0 ∷ 0 ∷ 0 ∷ [])

-- it is lawful
pub a_frame_that_idles_at_the_ceiling : IsLawfulMap base
    (demand_at (exhausted ∷ []) [] [] 960) (header_of base)
    800 waiting_map
a_frame_that_idles_at_the_ceiling = (
  all_idle,
  record {
    each = (
      record {
        some_slots = lit< tt;
        follows = refl;
        purpose = refl;
        first = (lit< tt, (none_waits _ _, (inr (a_flow_at_its_ceiling_is_not_eligible, tt), tt)));
      },
      tt,
    );
    whole = λ _. refl;
    due = λ _. tt;
    quiet = λ on. absurd (cc);
  },
  refl,
)

-- its elements are the request region, an idle, the Null and a pending grant
pub the_words_of_a_frame_that_idles_at_the_ceiling : map word_of waiting_map.wire.elements
    ≡ 0xfffc4000 ∷ 0x00018004 ∷ 0x0001c028 ∷ 0x00458028 ∷ []
the_words_of_a_frame_that_idles_at_the_ceiling = refl
