-- Worked examples of lawful MAPs where two flows of one priority take turns by their last grants.
use Rattle.std.proofs.Common.{◌≡◌, ℕ, List, [], ◌∷◌, map, refl, inl, inr, lit<, lit≤, arith}
use Rattle.map_codec.specs.Element.{word_of}
use Rattle.sched_calls.specs.declared.spec.FlowSpec.TheVariants.{BestEffort}
use Rattle.flow_book.proofs.Profile.{one_request}
use Rattle.flow_book.specs.declared.flow.Grant.{Grant}
use Rattle.flow_book.specs.Flows.{LiveFlow, charges_of}
use Rattle.flow_book.specs.Choice.{IsNext, IsAmount}
use Rattle.sched_calls.specs.declared.frame_map.FrameMap.{FrameMap}
use Rattle.map_build.specs.declared.purpose.Allocation.{Allocation}
use Rattle.map_build.specs.declared.purpose.Purpose.TheVariants.{DataGrant, Idle}
use Rattle.sched_calls.specs.Header.{header_of}
use Rattle.map_build.specs.Plan.{demand_at}
use Rattle.map_build.specs.FrameMap.{IsLawfulMap}
use Rattle.sched_calls.proofs.Base.{base}
use Rattle.flow_book.proofs.Unlimited.{MayGrant-unlimited, IsEligible-unlimited}
use Rattle.map_build.proofs.FlowsAfter.{allocation}
use Rattle.sched_calls.proofs.BaseMaps.{element, base_map}
use Rattle.map_build.proofs.RowsMaps.{none_waits}
use Rattle.map_build.proofs.RowsContention.{filled_by}

-- flows 20 and 21 of one priority, each with 1000 bytes asked and these grants
abbrev pub lower : List Grant → LiveFlow
lower grants = record {
  sid = 20;
  spec = BestEffort 3 0 0 0 0 0;
  asked = 1000;
  batches = one_request 1000 801;
  grants = grants;
  sustained = charges_of grants;
  peak = charges_of grants;
  reserved = [];
}

-- a flow of the next SID that is the same otherwise
abbrev pub higher : List Grant → LiveFlow
higher grants = record {
  sid = 21;
  spec = BestEffort 3 0 0 0 0 0;
  asked = 1000;
  batches = one_request 1000 801;
  grants = grants;
  sustained = charges_of grants;
  peak = charges_of grants;
  reserved = [];
}

-- a grant of 544 bytes at this minislot
abbrev pub grant_at : ℕ → List Grant
grant_at start = record { start = start; bytes = 544 } ∷ []

-- the flow without a grant is next
the_other_is_next : IsNext base (lower (grant_at 844) ∷ higher [] ∷ []) 884 36 (higher [])
the_other_is_next = record {
  live = (1, lit< tt, refl);
  eligible = IsEligible-unlimited base (higher []) 884 36 refl refl refl refl (lit< tt) (lit≤ tt);
  first = ((λ e. inr refl), ((λ e. inl refl), tt));
}

-- it gets what fits
amount_of_the_other : IsAmount base (higher []) 884 36 544
amount_of_the_other = record {
  allowed = MayGrant-unlimited base (higher []) 884 36 544 refl refl refl (lit< tt) (lit≤ tt) (lit≤ tt) (lit≤ tt);
  greatest = λ more may. omega (arith, may.taken.fits);
}

-- the MAP of the other flow's turn
abbrev pub second_turn : FrameMap
second_turn =
    base_map 880 800 (element 0x3fff 1 0 ∷ element 21 6 4 ∷ element 0 7 40 ∷ element 20 6 40 ∷ element 21 6 40 ∷ [])
    (0 ∷ 544 ∷ 0 ∷ 0 ∷ 0 ∷ [])

-- it is lawful
pub the_flow_without_a_grant_is_served : IsLawfulMap base
    (demand_at (lower (grant_at 844) ∷ higher [] ∷ []) [] [] 880) (header_of base)
    800 second_turn
the_flow_without_a_grant_is_served = (
  filled_by 21,
  record {
    each = (
      record {
        some_slots = lit< tt;
        follows = refl;
        purpose = (lit< tt, higher [], refl, the_other_is_next, amount_of_the_other, refl);
        first = (lit< tt, (none_waits _ _, tt));
      },
      tt,
    );
    whole = λ _. refl;
    due = λ _. tt;
    quiet = λ on. absurd (cc);
  },
  refl,
)

-- its elements are the request region, the grant, the Null and two pending grants
pub the_words_of_the_second_turn : map word_of second_turn.wire.elements
    ≡ 0xfffc4000 ∷ 0x00558004 ∷ 0x0001c028 ∷ 0x00518028 ∷ 0x00558028 ∷ []
the_words_of_the_second_turn = refl

-- then the flow whose last grant is the earlier is next
the_earlier_is_next : IsNext base (lower (grant_at 844) ∷ higher (grant_at 884) ∷ []) 924 36 (lower (grant_at 844))
the_earlier_is_next = record {
  live = (0, lit< tt, refl);
  eligible = IsEligible-unlimited base (lower (grant_at 844)) 924 36 refl refl refl refl (lit< tt) (lit≤ tt);
  first = ((λ e. inl refl), ((λ e. inr refl), tt));
}

-- it gets the 456 bytes that are left of its request
amount_of_the_earlier : IsAmount base (lower (grant_at 844)) 924 36 456
amount_of_the_earlier = record {
  allowed = MayGrant-unlimited base (lower (grant_at 844)) 924 36 456 refl refl refl (lit< tt) (lit≤ tt) (lit≤ tt) (lit≤ tt);
  greatest = λ more may. may.asked;
}

-- the frame with that grant, and five minislots idle
abbrev rest_granted : List Allocation
rest_granted = allocation 4 31 (DataGrant 20 456) ∷ allocation 35 5 Idle ∷ []

-- its MAP
abbrev pub third_turn : FrameMap
third_turn =
    base_map 920 800 (element 0x3fff 1 0 ∷ element 20 6 4 ∷ element 0 6 35 ∷ element 0 7 40 ∷ element 21 6 40 ∷ [])
    (0 ∷ 456 ∷ 0 ∷ 0 ∷ 0 ∷ [])

-- it is lawful: one flow has all it asked, and the quantum of the other does not fit
pub the_flow_with_the_earlier_grant_is_served : IsLawfulMap base
    (demand_at (lower (grant_at 844) ∷ higher (grant_at 884) ∷ []) [] [] 920) (header_of base)
    800 third_turn
the_flow_with_the_earlier_grant_is_served = (
  rest_granted,
  record {
    each = (
      record {
        some_slots = lit< tt;
        follows = refl;
        purpose = (lit< tt, lower (grant_at 844), refl, the_earlier_is_next, amount_of_the_earlier, refl);
        first = (lit< tt, (none_waits _ _, tt));
      },
      (
        record {
          some_slots = lit< tt;
          follows = refl;
          purpose = refl;
          first = (
            lit< tt,
            (
              none_waits _ _,
              (inr ((λ e. absurd (omega (arith, e.waits))), ((λ e. absurd (omega (arith, e.takes.fits))), tt)), tt),
            ),
          );
        },
        tt,
      ),
    );
    whole = λ _. refl;
    due = λ _. tt;
    quiet = λ on. absurd (cc);
  },
  refl,
)

-- its elements are the request region, the grant, an idle, the Null and one pending grant
pub the_words_of_the_third_turn : map word_of third_turn.wire.elements
    ≡ 0xfffc4000 ∷ 0x00518004 ∷ 0x00018023 ∷ 0x0001c028 ∷ 0x00558028 ∷ []
the_words_of_the_third_turn = refl
