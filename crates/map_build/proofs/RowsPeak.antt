-- Worked examples of lawful MAPs of a flow at its peak rate.
use Rattle.std.proofs.Common.{◌≡◌, ℕ, zero, suc, ◌*◌, ◌<◌, ◌≤◌, List, [], ◌∷◌, length, map, refl, inl, inr, lit<, lit≤}
use Rattle.std.proofs.Common.{min, arith}
use Rattle.map_codec.specs.Element.{word_of}
use Rattle.sched_calls.specs.declared.spec.FlowSpec.TheVariants.{BestEffort}
use Rattle.flow_book.specs.declared.flow.Grant.{Grant}
use Rattle.flow_book.specs.Flows.{LiveFlow, charges_of, outstanding}
use Rattle.flow_book.specs.Ceiling.{KeepsCeiling}
use Rattle.flow_book.specs.Choice.{MayTake, IsNext, IsAmount}
use Rattle.sched_calls.specs.declared.frame_map.FrameMap.{FrameMap}
use Rattle.map_build.specs.declared.purpose.Allocation.{Allocation}
use Rattle.map_build.specs.declared.purpose.Purpose.TheVariants.{DataGrant, Idle}
use Rattle.sched_calls.specs.Header.{header_of}
use Rattle.map_build.specs.Plan.{demand_at}
use Rattle.map_build.specs.FrameMap.{IsLawfulMap}
use Rattle.sched_calls.proofs.Base.{base}
use Rattle.flow_book.proofs.FirstGrant.{KeepsCeiling-first}
use Rattle.flow_book.proofs.Windows.{Leaves, keeps-more}
use Rattle.flow_book.proofs.RowsCeiling.{under_ceiling, grant, three}
use Rattle.flow_book.proofs.RowsPeak.{a_third_grant_is_at_the_peak_to_the_byte, a_flow_at_its_peak_is_not_eligible}
use Rattle.map_build.proofs.FlowsAfter.{allocation}
use Rattle.sched_calls.proofs.BaseMaps.{element, base_map}
use Rattle.map_build.proofs.RowsMaps.{all_idle, none_waits}
use Rattle.map_build.proofs.RowsContention.{filled_by}
use Rattle.map_build.proofs.RowsFirstGrant.{first_grant}
use Rattle.map_build.proofs.RowsCeiling.{second_grant, waiting_map}

-- a flow without a ceiling but with a peak rate of 64000 bits in a second that asked 3000 bytes, with these grants
abbrev pub under_peak : List Grant → LiveFlow
under_peak grants = record (under_ceiling grants) { spec = BestEffort 3 0 0 64000 0 0 }

-- its first grant, and its first two
abbrev pub one : List Grant
one = grant 844 544 ∷ []

abbrev pub two : List Grant
two = grant 844 544 ∷ grant 884 544 ∷ []

-- a grant of at most 544 bytes keeps the peak where it is the first, and the second
kept_first : (start bytes : ℕ) → bytes ≤ 544 → KeepsCeiling base 64000 1522 (charges_of (grant start bytes ∷ []))
kept_first start bytes few = KeepsCeiling-first base 64000 1522 (grant start bytes) (omega arith)

one_leaves : (bytes : ℕ) → bytes ≤ 544 → (k : ℕ) → k < length one → Leaves base 64000 1522 (charges_of one) 884 (1280000 * bytes) k
one_leaves bytes few zero lt = omega arith
one_leaves bytes few (suc k) lt = absurd (omega arith)

kept_second : (bytes : ℕ) → bytes ≤ 544
    → KeepsCeiling base 64000 1522 (charges_of (grant 844 544 ∷ grant 884 bytes ∷ []))
kept_second bytes few =
    keeps-more base 64000 1522 884 (1280000 * bytes) (charges_of one) (kept_first 844 544 (lit≤ tt)) (λ positive. omega arith)
    (λ positive. one_leaves bytes few)

-- and a third one of 64 does
two_leaves : (k : ℕ) → k < length two → Leaves base 64000 1522 (charges_of two) 924 (1280000 * 64) k
two_leaves zero lt = lit≤ tt
two_leaves (suc zero) lt = lit≤ tt
two_leaves (suc (suc k)) lt = absurd (omega arith)

kept_third : KeepsCeiling base 64000 1522 (charges_of (three 64))
kept_third =
    keeps-more base 64000 1522 924 (1280000 * 64) (charges_of two) (kept_second 544 (lit≤ tt)) (λ positive. lit≤ tt) (λ positive. two_leaves)

-- so it may be granted up to 544 bytes in the first two frames
may_take_first : (bytes : ℕ) → bytes ≤ 544 → MayTake base (under_peak []) 844 36 bytes
may_take_first bytes few = record {
  ceiling = record {
    sustained = λ limited. absurd (omega arith);
    peak = kept_first 844 bytes few;
    reserved = λ under. absurd (cc);
  };
  fits = omega arith;
}

may_take_second : (bytes : ℕ) → bytes ≤ 544 → MayTake base (under_peak one) 884 36 bytes
may_take_second bytes few = record {
  ceiling = record {
    sustained = λ limited. absurd (omega arith);
    peak = kept_second bytes few;
    reserved = λ under. absurd (cc);
  };
  fits = omega arith;
}

-- and the quantum in the third
may_take_third : MayTake base (under_peak two) 924 36 64
may_take_third = record {
  ceiling = record { sustained = λ limited. absurd (omega arith); peak = kept_third; reserved = λ under. absurd (cc) };
  fits = lit≤ tt;
}

-- alone a flow that waits and may take the quantum is next
next : (grants : List Grant) (start : ℕ)
    → MayTake base (under_peak grants) start 36 (min (outstanding (under_peak grants)) base.quantum)
    → 0 < outstanding (under_peak grants) → IsNext base (under_peak grants ∷ []) start 36 (under_peak grants)
next grants start takes waits = record {
  live = (0, lit< tt, refl);
  eligible = record { serves = refl; waits = waits; takes = takes };
  first = ((λ e. inl refl), tt);
}

-- and of what fits the room of a frame it has all in the first two
amount : (grants : List Grant) (start : ℕ) → MayTake base (under_peak grants) start 36 544
    → 544 ≤ outstanding (under_peak grants) → IsAmount base (under_peak grants) start 36 544
amount grants start takes waits = record {
  allowed = record { positive = lit< tt; asked = waits; capped = lit≤ tt; taken = takes };
  greatest = λ more may. omega (arith, may.taken.fits);
}

-- the MAP of its first grant, which fills the room, is lawful
pub a_first_grant_under_a_peak_fills_the_room : IsLawfulMap base
    (demand_at (under_peak [] ∷ []) [] [] 840) (header_of base)
    800 first_grant
a_first_grant_under_a_peak_fills_the_room = (
  filled_by 17,
  record {
    each = (
      record {
        some_slots = lit< tt;
        follows = refl;
        purpose = (
          lit< tt,
          under_peak [],
          refl,
          next [] 844 (may_take_first 64 (lit≤ tt)) (lit< tt),
          amount [] 844 (may_take_first 544 (lit≤ tt)) (lit≤ tt),
          refl,
        );
        first = (lit< tt, (none_waits _ _, tt));
      },
      tt,
    );
    whole = λ _. refl;
    due = λ _. tt;
    quiet = λ on. absurd (cc);
  },
  refl,
)

-- and so is that of its second one
pub a_second_grant_under_a_peak_fills_the_room : IsLawfulMap base
    (demand_at (under_peak one ∷ []) [] [] 880) (header_of base)
    800 second_grant
a_second_grant_under_a_peak_fills_the_room = (
  filled_by 17,
  record {
    each = (
      record {
        some_slots = lit< tt;
        follows = refl;
        purpose = (
          lit< tt,
          under_peak one,
          refl,
          next one 884 (may_take_second 64 (lit≤ tt)) (lit< tt),
          amount one 884 (may_take_second 544 (lit≤ tt)) (lit≤ tt),
          refl,
        );
        first = (lit< tt, (none_waits _ _, tt));
      },
      tt,
    );
    whole = λ _. refl;
    due = λ _. tt;
    quiet = λ on. absurd (cc);
  },
  refl,
)

-- the frame with its third grant, of 450 bytes, and five minislots idle
abbrev third_grant : List Allocation
third_grant = allocation 4 31 (DataGrant 17 450) ∷ allocation 35 5 Idle ∷ []

-- the MAP at the peak
abbrev pub peak_map : FrameMap
peak_map =
    base_map 920 800 (element 0x3fff 1 0 ∷ element 17 6 4 ∷ element 0 6 35 ∷ element 0 7 40 ∷ element 17 6 40 ∷ [])
    (0 ∷ 450 ∷ 0 ∷ 0 ∷ 0 ∷ [])

-- it is lawful
pub a_frame_with_a_grant_at_the_peak : IsLawfulMap base
    (demand_at (under_peak two ∷ []) [] [] 920) (header_of base)
    800 peak_map
a_frame_with_a_grant_at_the_peak = (
  third_grant,
  record {
    each = (
      record {
        some_slots = lit< tt;
        follows = refl;
        purpose = (
          lit< tt,
          under_peak two,
          refl,
          next two 924 may_take_third (lit< tt),
          a_third_grant_is_at_the_peak_to_the_byte,
          refl,
        );
        first = (lit< tt, (none_waits _ _, tt));
      },
      (
        record {
          some_slots = lit< tt;
          follows = refl;
          purpose = refl;
          first = (lit< tt, (none_waits _ _, (inr ((λ e. absurd (omega (arith, e.takes.fits))), tt), tt)));
        },
        tt,
      ),
    );
    whole = λ _. refl;
    due = λ _. tt;
    quiet = λ on. absurd (cc);
  },
  refl,
)

-- its elements are the request region, the grant, an idle, the Null and a pending grant
pub the_words_of_a_frame_with_a_grant_at_the_peak : map word_of peak_map.wire.elements
    ≡ 0xfffc4000 ∷ 0x00458004 ∷ 0x00018023 ∷ 0x0001c028 ∷ 0x00458028 ∷ []
the_words_of_a_frame_with_a_grant_at_the_peak = refl

-- the frame after it idles: the flow waits for its peak rate to bring the quantum
pub a_frame_that_idles_at_the_peak : IsLawfulMap base
    (demand_at (under_peak (three 450) ∷ []) [] [] 960) (header_of base)
    800 waiting_map
a_frame_that_idles_at_the_peak = (
  all_idle,
  record {
    each = (
      record {
        some_slots = lit< tt;
        follows = refl;
        purpose = refl;
        first = (lit< tt, (none_waits _ _, (inr (a_flow_at_its_peak_is_not_eligible, tt), tt)));
      },
      tt,
    );
    whole = λ _. refl;
    due = λ _. tt;
    quiet = λ on. absurd (cc);
  },
  refl,
)
