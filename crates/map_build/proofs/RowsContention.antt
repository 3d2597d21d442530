-- Worked examples of lawful MAPs where two flows contend.
use Rattle.std.proofs.Common.{◌≡◌, ℕ, List, [], ◌∷◌, map, refl, lit<, lit≤, arith}
use Rattle.map_codec.specs.Element.{word_of}
use Rattle.flow_book.specs.Choice.{IsAmount}
use Rattle.sched_calls.specs.declared.frame_map.FrameMap.{FrameMap}
use Rattle.map_build.specs.declared.purpose.Allocation.{Allocation}
use Rattle.map_build.specs.declared.purpose.Purpose.TheVariants.{DataGrant}
use Rattle.sched_calls.specs.Header.{header_of}
use Rattle.map_build.specs.Plan.{demand_at}
use Rattle.map_build.specs.FrameMap.{IsLawfulMap}
use Rattle.sched_calls.proofs.Base.{base}
use Rattle.flow_book.proofs.Unlimited.{MayGrant-unlimited}
use Rattle.flow_book.proofs.RowsChoice.{low, high, lower_sid, higher_sid, the_higher_priority_is_next}
use Rattle.flow_book.proofs.RowsChoice.{the_lower_sid_is_next}
use Rattle.map_build.proofs.FlowsAfter.{allocation}
use Rattle.sched_calls.proofs.BaseMaps.{element, base_map}
use Rattle.map_build.proofs.RowsMaps.{none_waits}

-- the frame behind the request region as one grant to this flow
abbrev pub filled_by : ℕ → List Allocation
filled_by sid = allocation 4 36 (DataGrant sid 544) ∷ []

-- the MAP that serves the higher priority: the other flow's grant is pending
abbrev pub high_first : FrameMap
high_first = base_map 840 800 (element 0x3fff 1 0 ∷ element 21 6 4 ∷ element 0 7 40 ∷ element 20 6 40 ∷ [])
    (0 ∷ 544 ∷ 0 ∷ 0 ∷ [])

-- 544 bytes fill the room of 36 minislots
amount_of_high : IsAmount base high 844 36 544
amount_of_high = record {
  allowed = MayGrant-unlimited base high 844 36 544 refl refl refl (lit< tt) (lit≤ tt) (lit≤ tt) (lit≤ tt);
  greatest = λ more may. may.asked;
}

-- it is lawful
pub the_higher_priority_is_served_first : IsLawfulMap base
    (demand_at (low ∷ high ∷ []) [] [] 840) (header_of base)
    800 high_first
the_higher_priority_is_served_first = (
  filled_by 21,
  record {
    each = (
      record {
        some_slots = lit< tt;
        follows = refl;
        purpose = (lit< tt, high, refl, the_higher_priority_is_next, amount_of_high, refl);
        first = (lit< tt, (none_waits _ _, tt));
      },
      tt,
    );
    whole = λ _. refl;
    due = λ _. tt;
    quiet = λ on. absurd (cc);
  },
  refl,
)

-- its elements are the request region, the grant, the Null and the pending grant
pub the_words_where_the_higher_priority_is_served : map word_of high_first.wire.elements
    ≡ 0xfffc4000 ∷ 0x00558004 ∷ 0x0001c028 ∷ 0x00518028 ∷ []
the_words_where_the_higher_priority_is_served = refl

-- the MAP of two flows of one priority: the lower SID's grant, and both have one pending
abbrev pub both_pending : FrameMap
both_pending =
    base_map 840 800 (element 0x3fff 1 0 ∷ element 20 6 4 ∷ element 0 7 40 ∷ element 20 6 40 ∷ element 21 6 40 ∷ [])
    (0 ∷ 544 ∷ 0 ∷ 0 ∷ 0 ∷ [])

-- of 1000 bytes 544 fit the room
amount_of_lower_sid : IsAmount base lower_sid 844 36 544
amount_of_lower_sid = record {
  allowed = MayGrant-unlimited base lower_sid 844 36 544 refl refl refl (lit< tt) (lit≤ tt) (lit≤ tt) (lit≤ tt);
  greatest = λ more may. omega (arith, may.taken.fits);
}

-- it is lawful
pub two_flows_take_turns : IsLawfulMap base
    (demand_at (lower_sid ∷ higher_sid ∷ []) [] [] 840) (header_of base)
    800 both_pending
two_flows_take_turns = (
  filled_by 20,
  record {
    each = (
      record {
        some_slots = lit< tt;
        follows = refl;
        purpose = (lit< tt, lower_sid, refl, the_lower_sid_is_next, amount_of_lower_sid, refl);
        first = (lit< tt, (none_waits _ _, tt));
      },
      tt,
    );
    whole = λ _. refl;
    due = λ _. tt;
    quiet = λ on. absurd (cc);
  },
  refl,
)

-- its elements are the request region, the grant, the Null and two pending grants
pub the_words_where_two_flows_take_turns : map word_of both_pending.wire.elements
    ≡ 0xfffc4000 ∷ 0x00518004 ∷ 0x0001c028 ∷ 0x00518028 ∷ 0x00558028 ∷ []
the_words_where_two_flows_take_turns = refl
