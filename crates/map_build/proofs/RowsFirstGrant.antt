-- Worked examples of the first data grant of a flow under a rate ceiling.
use Rattle.std.proofs.Common.{◌≡◌, ℕ, ◌≤◌, [], ◌∷◌, map, refl, inl, lit<, lit≤, arith}
use Rattle.map_codec.specs.Element.{word_of}
use Rattle.sched_calls.specs.declared.spec.FlowSpec.TheVariants.{BestEffort}
use Rattle.flow_book.proofs.Profile.{one_request}
use Rattle.flow_book.specs.Flows.{LiveFlow}
use Rattle.flow_book.specs.Choice.{MayTake, IsNext, IsAmount}
use Rattle.sched_calls.specs.declared.frame_map.FrameMap.{FrameMap}
use Rattle.sched_calls.specs.Header.{header_of}
use Rattle.map_build.specs.Plan.{demand_at}
use Rattle.map_build.specs.FrameMap.{IsLawfulMap}
use Rattle.sched_calls.proofs.Base.{base}
use Rattle.flow_book.proofs.FirstGrant.{KeepsCeiling-first}
use Rattle.flow_book.proofs.Unlimited.{KeepsWith-peakless}
use Rattle.sched_calls.proofs.BaseMaps.{element, base_map}
use Rattle.map_build.proofs.RowsMaps.{none_waits}
use Rattle.map_build.proofs.RowsContention.{filled_by}

-- a flow of 64000 bits in a second and bursts of so many bytes that asked so many in a request that was heard then
abbrev pub fresh : ℕ → ℕ → ℕ → LiveFlow
fresh burst asked heard = record {
  sid = 17;
  spec = BestEffort 3 64000 burst 0 0 0;
  asked = asked;
  batches = one_request asked heard;
  grants = [];
  sustained = [];
  peak = [];
  reserved = [];
}

-- it may take up to 544 bytes at once, where these are no more than its burst
may_take : (burst asked heard start bytes : ℕ) → 544 ≤ burst → bytes ≤ 544
    → MayTake base (fresh burst asked heard) start 36 bytes
may_take burst asked heard start bytes enough few = record {
  ceiling = KeepsWith-peakless base (fresh burst asked heard) start bytes refl refl
      (KeepsCeiling-first base 64000 burst (record { start = start; bytes = bytes }) (omega arith));
  fits = omega arith;
}

-- alone it is next
next : (burst asked heard start : ℕ) → 544 ≤ burst → 544 ≤ asked →
    IsNext base (fresh burst asked heard ∷ []) start 36 (fresh burst asked heard)
next burst asked heard start enough many = record {
  live = (0, lit< tt, refl);
  eligible = record { serves = refl; waits = omega arith; takes = may_take burst asked heard start _ enough (omega arith) };
  first = ((λ e. inl refl), tt);
}

-- its amount is 544 bytes
amount : (burst asked heard start : ℕ) → 544 ≤ burst → 544 ≤ asked → IsAmount base (fresh burst asked heard) start 36 544
amount burst asked heard start enough many = record {
  allowed = record {
    positive = lit< tt;
    asked = omega arith;
    capped = lit≤ tt;
    taken = may_take burst asked heard start 544 enough (lit≤ tt);
  };
  greatest = λ more may. omega (arith, may.taken.fits);
}

-- the MAP of its first grant, with the rest pending
abbrev pub first_grant : FrameMap
first_grant = base_map 840 800 (element 0x3fff 1 0 ∷ element 17 6 4 ∷ element 0 7 40 ∷ element 17 6 40 ∷ [])
    (0 ∷ 544 ∷ 0 ∷ 0 ∷ [])

-- it is lawful, whatever the burst above 544
pub a_first_grant_fills_the_room : (burst : ℕ) → 544 ≤ burst →
    IsLawfulMap base (demand_at (fresh burst 3000 801 ∷ []) [] [] 840) (header_of base)
    800 first_grant
a_first_grant_fills_the_room burst enough = (
  filled_by 17,
  record {
    each = (
      record {
        some_slots = lit< tt;
        follows = refl;
        purpose = (
          lit< tt,
          fresh burst 3000 801,
          refl,
          next burst 3000 801 844 enough (lit≤ tt),
          amount burst 3000 801 844 enough
              (lit≤ tt),
          refl,
        );
        first = (lit< tt, (none_waits _ _, tt));
      },
      tt,
    );
    whole = λ _. refl;
    due = λ _. tt;
    quiet = λ on. absurd (cc);
  },
  refl,
)

-- its elements are the request region, the grant, the Null and a pending grant
pub the_words_of_a_first_grant : map word_of first_grant.wire.elements
    ≡ 0xfffc4000 ∷ 0x00458004 ∷ 0x0001c028 ∷ 0x00458028 ∷ []
the_words_of_a_first_grant = refl

-- the MAP of a first grant of all that was asked
abbrev pub whole_grant : FrameMap
whole_grant = base_map 880 800 (element 0x3fff 1 0 ∷ element 17 6 4 ∷ element 0 7 40 ∷ []) (0 ∷ 544 ∷ 0 ∷ [])

-- it is lawful
pub a_first_grant_of_all_that_was_asked : IsLawfulMap base
    (demand_at (fresh 600 544 841 ∷ []) [] [] 880) (header_of base)
    800 whole_grant
a_first_grant_of_all_that_was_asked = (
  filled_by 17,
  record {
    each = (
      record {
        some_slots = lit< tt;
        follows = refl;
        purpose = (
          lit< tt,
          fresh 600 544 841,
          refl,
          next 600 544 841 884 (lit≤ tt) (lit≤ tt),
          amount 600 544 841 884 (lit≤ tt)
              (lit≤ tt),
          refl,
        );
        first = (lit< tt, (none_waits _ _, tt));
      },
      tt,
    );
    whole = λ _. refl;
    due = λ _. tt;
    quiet = λ on. absurd (cc);
  },
  refl,
)

-- its elements are the request region, the grant and the Null
pub the_words_of_a_whole_grant : map word_of whole_grant.wire.elements ≡ 0xfffc4000 ∷ 0x00458004 ∷ 0x0001c028 ∷ []
the_words_of_a_whole_grant = refl
