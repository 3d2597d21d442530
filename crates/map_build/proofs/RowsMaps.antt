-- Worked examples of lawful MAPs.
use Rattle.std.proofs.Common.{◌≡◌, ℕ, List, [], ◌∷◌, map, Some, slice_get, refl, inl, inr, lit<, lit≤, arith}
use Rattle.map_codec.specs.Element.{word_of}
use Rattle.map_codec.specs.WireMap.{header, spelling}
use Rattle.sched_calls.specs.declared.spec.FlowSpec.TheVariants.{BestEffort}
use Rattle.flow_book.proofs.Profile.{one_request}
use Rattle.flow_book.specs.Flows.{LiveFlow}
use Rattle.sched_calls.specs.declared.frame_map.FrameMap.{FrameMap}
use Rattle.sched_calls.specs.declared.opportunity.Opportunity.{Opportunity}
use Rattle.map_build.specs.declared.purpose.Allocation.{Allocation}
use Rattle.map_build.specs.declared.purpose.Purpose.TheVariants.{DataGrant, Idle}
use Rattle.sched_calls.specs.Header.{header_of}
use Rattle.map_build.specs.Plan.{demand_at, NoneToMeet}
use Rattle.map_build.specs.FrameMap.{IsLawfulMap}
use Rattle.sched_calls.proofs.Base.{base}
use Rattle.sched_calls.proofs.BaseMaps.{element, base_map, first_map}
use Rattle.flow_book.proofs.Unlimited.{MayGrant-unlimited, IsEligible-unlimited}
use Rattle.map_build.proofs.FlowsAfter.{allocation}

nothing-waits : (place : ℕ) (o : Opportunity) → slice_get [] place ≡ Some o → ⊥
nothing-waits place o is = absurd (cc)

-- where no opportunity waits there is none to meet
pub none_waits : (before : List Allocation) (room : ℕ) → NoneToMeet [] before room
none_waits before room = λ place o may. nothing-waits place o may.waits

-- a frame that is idle behind its request region
abbrev pub all_idle : List Allocation
all_idle = allocation 4 36 Idle ∷ []

-- the MAP of the first frame, where no flow is live, is lawful
pub a_frame_without_flows : IsLawfulMap base
    (demand_at [] [] [] 800) (header_of base)
    800 first_map
a_frame_without_flows = (
  all_idle,
  (record {
    each = (
      record {
        some_slots = lit< tt;
        follows = refl;
        purpose = refl;
        first = (lit< tt, (none_waits _ _, (inr tt, tt)));
      },
      tt,
    );
    whole = λ _. refl;
    due = λ _. tt;
    quiet = λ on. absurd (cc);
  }),
  refl,
)

-- its elements are the request region, an idle and the Null
pub the_words_of_a_frame_without_flows : map word_of first_map.wire.elements ≡ 0xfffc4000 ∷ 0x00018004 ∷ 0x0001c028 ∷ []
the_words_of_a_frame_without_flows = refl

-- its payload is these 28 bytes
pub the_bytes_of_a_frame_without_flows : spelling first_map.wire
    ≡ 3 ∷ 1 ∷ 3 ∷ 0 ∷ 0 ∷ 0 ∷ 3 ∷ 0x20 ∷ 0 ∷ 0 ∷ 3 ∷ 0x20 ∷ 0 ∷ 0 ∷ 0 ∷ 0
    ∷ 0xff ∷ 0xfc ∷ 0x40 ∷ 0 ∷ 0 ∷ 1 ∷ 0x80 ∷ 4 ∷ 0 ∷ 1 ∷ 0xc0 ∷ 0x28 ∷ []
unfolding spelling header
the_bytes_of_a_frame_without_flows = refl

-- a best effort flow without a ceiling that asked 100 bytes
abbrev pub small : LiveFlow
small = record {
  sid = 17;
  spec = BestEffort 3 0 0 0 0 0;
  asked = 100;
  batches = one_request 100 801;
  grants = [];
  sustained = [];
  peak = [];
  reserved = [];
}

-- a frame with its grant of nine minislots
abbrev pub one_grant : List Allocation
one_grant = allocation 4 9 (DataGrant 17 100) ∷ allocation 13 27 Idle ∷ []

-- the MAP of the second frame, where that flow is live
abbrev pub second_map : FrameMap
second_map = base_map 840 800 (element 0x3fff 1 0 ∷ element 17 6 4 ∷ element 0 6 13 ∷ element 0 7 40 ∷ [])
    (0 ∷ 100 ∷ 0 ∷ 0 ∷ [])

-- it is lawful
pub a_frame_with_one_grant : IsLawfulMap base
    (demand_at (small ∷ []) [] [] 840) (header_of base)
    800 second_map
a_frame_with_one_grant = (
  one_grant,
  (record {
    each = (
      record {
        some_slots = lit< tt;
        follows = refl;
        purpose = (
          lit< tt,
          small,
          refl,
          record {
            live = (0, lit< tt, refl);
            eligible = IsEligible-unlimited base small 844 36 refl refl refl refl (lit< tt) (lit≤ tt);
            first = ((λ e. inl refl), tt);
          },
          record {
            allowed = MayGrant-unlimited base small 844 36 100 refl refl refl (lit< tt) (lit≤ tt) (lit≤ tt) (lit≤ tt);
            greatest = λ more may. may.asked;
          },
          refl,
        );
        first = (lit< tt, (none_waits _ _, tt));
      },
      (
        record {
          some_slots = lit< tt;
          follows = refl;
          purpose = refl;
          first = (lit< tt, (none_waits _ _, (inr ((λ e. absurd (omega (arith, e.waits))), tt), tt)));
        },
        tt,
      ),
    );
    whole = λ _. refl;
    due = λ _. tt;
    quiet = λ on. absurd (cc);
  }),
  refl,
)

-- its elements are the request region, a long grant, an idle and the Null, and no grant is pending
pub the_words_of_a_frame_with_one_grant : map word_of second_map.wire.elements
    ≡ 0xfffc4000 ∷ 0x00458004 ∷ 0x0001800d ∷ 0x0001c028 ∷ []
the_words_of_a_frame_with_one_grant = refl
