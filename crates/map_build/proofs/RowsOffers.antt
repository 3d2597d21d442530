-- Worked examples of MAPs with opportunities to range.
use Rattle.std.proofs.Common.{◌≡◌, ℕ, zero, suc, List, [], ◌∷◌, map, Some, slice_get, refl, ap, sym, subst}
use Rattle.std.proofs.Common.{inl, inr}
use Rattle.std.proofs.Common.{lit<, lit≤, ◌≤◌, ◌<◌, arith}
use Rattle.map_codec.specs.Element.{word_of, element_at}
use Rattle.sched_calls.specs.declared.frame_map.FrameMap.{FrameMap}
use Rattle.sched_calls.specs.declared.opportunity.Opportunity.{Opportunity}
use Rattle.sched_calls.specs.declared.opportunity.Usage.{Usage}
use Rattle.sched_calls.specs.declared.opportunity.Usage.TheVariants.{Initial, InitialTo, Station, Request, Quiet, DataTo}
use Rattle.map_build.specs.declared.purpose.Allocation.{Allocation}
use Rattle.map_build.specs.declared.purpose.Purpose.TheVariants.{Poll, Offer, DataGrant, Idle}
use Rattle.sched_calls.specs.Header.{header_of}
use Rattle.map_build.specs.Purpose.{element_of}
use Rattle.map_build.specs.Plan.{demand_at, IsMetIn, NoneToMeet}
use Rattle.map_build.specs.FrameMap.{IsLawfulMap}
use Rattle.sched_calls.proofs.Base.{base, the_base_has_bursts}
use Rattle.flow_book.proofs.Unlimited.{MayGrant-unlimited, IsEligible-unlimited}
use Rattle.map_build.proofs.Apart.{BeginApart-nil}
use Rattle.map_build.proofs.FlowsAfter.{allocation}
use Rattle.map_build.proofs.Offers.{met-only}
use Rattle.map_build.proofs.OneMap.{one_map}
use Rattle.sched_calls.proofs.BaseMaps.{element, base_map}
use Rattle.map_build.proofs.RowsMaps.{small}
use Rattle.map_build.proofs.RowsPoll.{polled, its_poll}

-- an opportunity of so many minislots for all modems that join the channel
abbrev pub initial : ℕ → Opportunity
initial slots = record { usage = Initial; slots = slots }

-- and one for a modem
abbrev pub station : ℕ → ℕ → Opportunity
station sid slots = record { usage = Station sid; slots = slots }

only-zeroth : (o p : Opportunity) (place : ℕ) → slice_get (o ∷ []) place ≡ Some p → place ≡ 0
only-zeroth o p zero is = refl
only-zeroth o p (suc place) is = absurd (cc)

-- where the one that waits is met there is none
none-more : (o : Opportunity) (before : List Allocation) (room : ℕ) → IsMetIn before 0 →
    NoneToMeet (o ∷ []) before room
none-more o before room met = λ place p may.
    may.unmet (subst (λ n. IsMetIn before n) (sym (only-zeroth o p place may.waits)) met)

-- a frame with an opportunity for all, and the rest idle
abbrev one_initial : List Allocation
one_initial = allocation 4 8 (Offer 0 Initial) ∷ allocation 12 28 Idle ∷ []

-- its MAP
abbrev pub initial_map : FrameMap
initial_map = base_map 800 760 (element 0x3fff 1 0 ∷ element 0x3fff 3 4 ∷ element 0 6 12 ∷ element 0 7 40 ∷ [])
    (0 ∷ 0 ∷ 0 ∷ 0 ∷ [])

-- it is lawful
pub a_frame_with_an_opportunity_for_all : IsLawfulMap base
    (demand_at [] [] (initial 8 ∷ []) 800) (header_of base)
    760 initial_map
a_frame_with_an_opportunity_for_all = (
  one_initial,
  record {
    each = (
      record {
        some_slots = lit< tt;
        follows = refl;
        purpose = record {
          may = record { waits = refl; unmet = λ is. absurd (omega (arith, is.1.1)); fits = lit≤ tt };
          first = λ earlier p may. omega arith;
        };
        first = (lit< tt, tt);
      },
      (
        record {
          some_slots = lit< tt;
          follows = refl;
          purpose = refl;
          first = (
            lit< tt,
            (
              none-more (initial 8) (allocation 4 8 (Offer 0 Initial) ∷ []) 28
                  (allocation 4 8 (Offer 0 Initial), (0, lit< tt, refl), refl),
              (inr tt, tt),
            ),
          );
        },
        tt,
      ),
    );
    whole = λ _. refl;
    due = λ _. tt;
    quiet = λ on. absurd (cc);
  },
  refl,
)

-- its elements are the request region, the opportunity, an idle and the Null
pub the_words_of_a_frame_with_an_opportunity_for_all : map word_of initial_map.wire.elements
    ≡ 0xfffc4000 ∷ 0xfffcc004 ∷ 0x0001800c ∷ 0x0001c028 ∷ []
the_words_of_a_frame_with_an_opportunity_for_all = refl

-- two wait; beside a poll there are not as many minislots as the first asks for
abbrev pub long_and_short : List Opportunity
long_and_short = initial 36 ∷ station 9 4 ∷ []

-- the poll and the second of them
abbrev poll_and_second : List Allocation
poll_and_second = allocation 4 2 (Poll 9) ∷ allocation 6 4 (Offer 1 (Station 9)) ∷ []

-- the frame with the poll and the second
abbrev second_alone : List Allocation
second_alone = allocation 4 2 (Poll 9) ∷ allocation 6 4 (Offer 1 (Station 9)) ∷ allocation 10 30 Idle ∷ []

-- its MAP: an opportunity of a polled modem beside its poll
abbrev pub second_alone_map : FrameMap
second_alone_map = base_map 800 800
    (element 0x3fff 1 0 ∷ element 9 1 4 ∷ element 9 4 6 ∷ element 0 6 10 ∷ element 0 7 40 ∷ [])
    (0 ∷ 0 ∷ 0 ∷ 0 ∷ 0 ∷ [])

some-same : (o p : Opportunity) → Some o ≡ Some p → o ≡ p
some-same o p is = cc

poll-meets-nothing : IsMetIn (allocation 4 2 (Poll 9) ∷ []) 1 → ⊥
poll-meets-nothing is = let it = met-only (allocation 4 2 (Poll 9)) 1 is in absurd (cc)

second-first : (earlier : ℕ) (p : Opportunity) → slice_get long_and_short earlier ≡ Some p → p.slots ≤ 34 →
    1 ≤ earlier
second-first zero p is fits =
    let long : 36 ≡ p.slots = ap (λ (o : Opportunity). o.slots) (some-same (initial 36) p is) in
    absurd (omega (arith, long))
second-first (suc earlier) p is fits = omega arith

long-waits : (room place : ℕ) (before : List Allocation) → room < 36 → IsMetIn before 1 → (p : Opportunity) →
    slice_get long_and_short place ≡ Some p → p.slots ≤ room → (IsMetIn before place → ⊥) → ⊥
long-waits room zero before few met p is fits never =
    let long : 36 ≡ p.slots = ap (λ (o : Opportunity). o.slots) (some-same (initial 36) p is) in omega (arith, long)
long-waits room (suc zero) before few met p is fits never = never met
long-waits room (suc (suc place)) before few met p is fits never = absurd (cc)

-- it is lawful: the one that does not fit holds up neither the other nor the rest
pub an_opportunity_that_does_not_fit_holds_up_nothing : IsLawfulMap base
    (demand_at (polled ∷ []) (its_poll ∷ []) long_and_short 800) (header_of base) 800 second_alone_map
an_opportunity_that_does_not_fit_holds_up_nothing = (
  second_alone,
  record {
    each = (
      record { some_slots = lit< tt; follows = refl; purpose = (0, lit< tt, refl); first = tt },
      (
        record {
          some_slots = lit< tt;
          follows = refl;
          purpose = record {
            may = record { waits = refl; unmet = poll-meets-nothing; fits = lit≤ tt };
            first = λ earlier p may. second-first earlier p may.waits may.fits;
          };
          first = (lit< tt, tt);
        },
        (
          record {
            some_slots = lit< tt;
            follows = refl;
            purpose = refl;
            first = (
              lit< tt,
              (
                λ place p may. long-waits 30 place poll_and_second (lit< tt)
                    (allocation 6 4 (Offer 1 (Station 9)), (1, lit< tt, refl), refl) p may.waits may.fits may.unmet,
                (inr ((λ e. absurd (omega (arith, e.waits))), tt), tt),
              ),
            );
          },
          tt,
        ),
      ),
    );
    whole = λ _. refl;
    due = λ _. ((0, lit< tt, refl), tt);
    quiet = λ on. absurd (cc);
  },
  refl,
)

-- its elements are the request region, the poll, the second opportunity, an idle and the Null
pub the_words_where_one_does_not_fit : map word_of second_alone_map.wire.elements
    ≡ 0xfffc4000 ∷ 0x00244004 ∷ 0x00250006 ∷ 0x0001800a ∷ 0x0001c028 ∷ []
the_words_where_one_does_not_fit = refl

-- a frame with an opportunity, and behind it the grant of a flow
abbrev offer_and_grant : List Allocation
offer_and_grant =
    allocation 4 8 (Offer 0 Initial) ∷ allocation 12 9 (DataGrant 17 100) ∷ allocation 21 19 Idle ∷ []

-- its MAP
abbrev pub offer_first : FrameMap
offer_first = base_map 840 800
    (element 0x3fff 1 0 ∷ element 0x3fff 3 4 ∷ element 17 6 12 ∷ element 0 6 21 ∷ element 0 7 40 ∷ [])
    (0 ∷ 0 ∷ 100 ∷ 0 ∷ 0 ∷ [])

-- it is lawful
pub an_opportunity_goes_before_data : IsLawfulMap base (demand_at (small ∷ []) [] (initial 8 ∷ []) 840)
    (header_of base) 800 offer_first
an_opportunity_goes_before_data = (
  offer_and_grant,
  record {
    each = (
      record {
        some_slots = lit< tt;
        follows = refl;
        purpose = record {
          may = record { waits = refl; unmet = λ is. absurd (omega (arith, is.1.1)); fits = lit≤ tt };
          first = λ earlier p may. omega arith;
        };
        first = (lit< tt, tt);
      },
      (
        record {
          some_slots = lit< tt;
          follows = refl;
          purpose = (
            lit< tt,
            small,
            refl,
            record {
              live = (0, lit< tt, refl);
              eligible = IsEligible-unlimited base small 852 28 refl refl refl refl (lit< tt) (lit≤ tt);
              first = ((λ e. inl refl), tt);
            },
            record {
              allowed = MayGrant-unlimited base small 852 28 100 refl refl refl (lit< tt) (lit≤ tt) (lit≤ tt) (lit≤ tt);
              greatest = λ more may. may.asked;
            },
            refl,
          );
          first = (
            lit< tt,
            (
              none-more (initial 8) (allocation 4 8 (Offer 0 Initial) ∷ []) 28
                  (allocation 4 8 (Offer 0 Initial), (0, lit< tt, refl), refl),
              tt,
            ),
          );
        },
        (
          record {
            some_slots = lit< tt;
            follows = refl;
            purpose = refl;
            first = (
              lit< tt,
              (
                none-more (initial 8)
                    (allocation 4 8 (Offer 0 Initial) ∷ allocation 12 9 (DataGrant 17 100) ∷ []) 19
                    (allocation 4 8 (Offer 0 Initial), (0, lit< tt, refl), refl),
                (inr ((λ e. absurd (omega (arith, e.waits))), tt), tt),
              ),
            );
          },
          tt,
        ),
      ),
    );
    whole = λ _. refl;
    due = λ _. tt;
    quiet = λ on. absurd (cc);
  },
  refl,
)

-- the data grant goes first, and the opportunity behind it
abbrev data_first : FrameMap
data_first = base_map 840 800
    (element 0x3fff 1 0 ∷ element 17 6 4 ∷ element 0x3fff 3 13 ∷ element 0 6 21 ∷ element 0 7 40 ∷ [])
    (0 ∷ 100 ∷ 0 ∷ 0 ∷ 0 ∷ [])

-- a MAP that has data before an opportunity that fits is not lawful
pub a_map_with_data_before_an_opportunity_is_not_lawful : IsLawfulMap base
    (demand_at (small ∷ []) [] (initial 8 ∷ []) 840) (header_of base) 800 data_first → ⊥
a_map_with_data_before_an_opportunity_is_not_lawful lawful =
    let e = one_map base (demand_at (small ∷ []) [] (initial 8 ∷ []) 840) the_base_has_bursts BeginApart-nil (header_of base) 800
    data_first offer_first lawful an_opportunity_goes_before_data in
    omega (arith, ap (λ m. (element_at m.wire.elements 1).sid) e)

-- the element of an opportunity of so many minislots of the base configuration
abbrev offered : ℕ → Usage → ℕ
offered slots usage = word_of (element_of base (allocation 4 slots (Offer 0 usage)))

-- a modem, those with some priorities or all modems may request, as in a poll or a request region
pub the_words_of_request_opportunities : map (λ sid. offered 2 (Request sid)) (9 ∷ 15873 ∷ 16383 ∷ [])
    ≡ 0x00244004 ∷ 0xf8044004 ∷ 0xfffc4004 ∷ []
the_words_of_request_opportunities = refl

-- one modem may join
pub the_word_of_initial_maintenance_of_one_modem : offered 8 (InitialTo 9) ≡ 0x0024c004
the_word_of_initial_maintenance_of_one_modem = refl

-- a quiet window reads like an idle
pub the_word_of_a_quiet_window : offered 8 Quiet ≡ 0x00018004
the_word_of_a_quiet_window = refl

-- a data opportunity is short by the most bytes that it carries, and long where it carries none
pub the_words_of_data_opportunities : map (λ slots. offered slots (DataTo 9)) (2 ∷ 3 ∷ 8 ∷ 9 ∷ [])
    ≡ 0x00258004 ∷ 0x00254004 ∷ 0x00254004 ∷ 0x00258004 ∷ []
the_words_of_data_opportunities = refl
