-- A worked example of a lawful MAP with a poll.
use Rattle.std.proofs.Common.{◌≡◌, None, List, [], ◌∷◌, map, refl, inr, lit<, arith}
use Rattle.map_codec.specs.Element.{word_of}
use Rattle.sched_calls.specs.declared.spec.FlowSpec.TheVariants.{Polled}
use Rattle.flow_book.specs.Flows.{LiveFlow}
use Rattle.flow_book.specs.Book.{new_flow}
use Rattle.periodic.specs.declared.placement.Spot.{Spot}
use Rattle.sched_calls.specs.declared.frame_map.FrameMap.{FrameMap}
use Rattle.map_build.specs.declared.purpose.Allocation.{Allocation}
use Rattle.map_build.specs.declared.purpose.Purpose.TheVariants.{Poll, Idle}
use Rattle.sched_calls.specs.Header.{header_of}
use Rattle.map_build.specs.Plan.{demand_at}
use Rattle.map_build.specs.FrameMap.{IsLawfulMap}
use Rattle.sched_calls.proofs.Base.{base}
use Rattle.map_build.proofs.FlowsAfter.{allocation}
use Rattle.sched_calls.proofs.BaseMaps.{element, base_map}
use Rattle.map_build.proofs.RowsMaps.{none_waits}

-- a polled flow of 5000 microseconds that asked nothing yet
abbrev pub polled : LiveFlow
polled = new_flow 9 (Polled 5000 0 0 0 0)

-- its poll, two minislots behind the request region
abbrev pub its_poll : Spot
its_poll = record { sid = 9; size = None; offset = 4; slots = 2 }

-- a frame with the poll
abbrev pub poll_and_idle : List Allocation
poll_and_idle = allocation 4 2 (Poll 9) ∷ allocation 6 34 Idle ∷ []

-- the MAP of a frame with the poll
abbrev pub poll_map : FrameMap
poll_map = base_map 800 800 (element 0x3fff 1 0 ∷ element 9 1 4 ∷ element 0 6 6 ∷ element 0 7 40 ∷ [])
    (0 ∷ 0 ∷ 0 ∷ 0 ∷ [])

-- it is lawful
pub a_frame_with_a_poll : IsLawfulMap base
    (demand_at (polled ∷ []) (its_poll ∷ []) [] 800) (header_of base)
    800 poll_map
a_frame_with_a_poll = (
  poll_and_idle,
  record {
    each = (
      record { some_slots = lit< tt; follows = refl; purpose = (0, lit< tt, refl); first = tt },
      (
        record {
          some_slots = lit< tt;
          follows = refl;
          purpose = refl;
          first = (lit< tt, (none_waits _ _, (inr ((λ e. absurd (omega (arith, e.waits))), tt), tt)));
        },
        tt,
      ),
    );
    whole = λ _. refl;
    due = λ _. ((0, lit< tt, refl), tt);
    quiet = λ on. absurd (cc);
  },
  refl,
)

-- its elements are the request region, the poll, an idle and the Null
pub the_words_of_a_frame_with_a_poll : map word_of poll_map.wire.elements
    ≡ 0xfffc4000 ∷ 0x00244004 ∷ 0x00018006 ∷ 0x0001c028 ∷ []
the_words_of_a_frame_with_a_poll = refl
