-- A worked state that is possible, with all kinds of things in it.
use Rattle.std.proofs.Common.{◌≡◌, refl, subst, ℕ, Bool, ◌%◌, ◌+◌, ◌<◌, ◌≤◌, [], ◌∷◌, inl, inr, true, false}
use Rattle.std.proofs.Common.{lit<, lit≤, arith}
use Rattle.std.proofs.lemmas.Bool.{cases_lt}
use Rattle.sched_calls.specs.FlowSpec.{first_fault}
use Rattle.periodic.specs.Placement.{spots_in, starts_in, HasLawfulStarts, AreLawfulStarts}
use Rattle.channel_states.specs.PossibleFlow.{IsPossibleFlow}
use Rattle.channel_states.specs.PossiblePlaces.{MayStandTogether}
use Rattle.periodic.specs.Carried.{placement_of, placed_in}
use Rattle.channel_states.specs.Possible.{IsPossible}
use Rattle.channel_states.proofs.Worked.{channel, voice, polling, voice_place, voice_at, polled, polled_place}
use Rattle.channel_states.proofs.Worked.{in_two_batches, in_one_batch, state}

-- what holds of both frames of the cycle holds of each
pub each-of-two : (P : ℕ → Type 0) → P 0 → P 1 → (k : ℕ) → k < 2 → P k
each-of-two P first second k low = elim (cases_lt k 1) [
  | inl early ↦ (let same : 0 ≡ k = omega arith in subst P same first)
  | inr late ↦ (let same : 1 ≡ k = omega arith in subst P same second)
]

-- what holds of the first holds of each of its phase
pub first-of-two : (P : ℕ → Type 0) → P 0 → (k : ℕ) → k < 2 → k % 2 ≡ 0 → P k
first-of-two P first k low even = (let same : 0 ≡ k = omega arith in subst P same first)

voice-starts : (start : ℕ) (rests : Bool) → 4 ≤ start → start ≤ 25
    → HasLawfulStarts channel voice
    (placement_of channel (voice_place start rests)) (λ k. [])
voice-starts start rests late early = record {
  count = refl;
  each = first-of-two (λ k. AreLawfulStarts channel voice 4 []
      (starts_in channel voice (placement_of channel (voice_place start rests))
      k)) (record {
        count = refl;
        in_turn = (late, tt);
        each = (record { after_nominal = late; within_jitter = within; within_frame = fits; free = tt }, tt);
      });
} where
  within : start ≤ 36
  within = omega arith

  fits : start + 15 ≤ 40
  fits = omega arith

-- a voice is possible, whether or not it rests
voice-possible : (sid start : ℕ) (rests : Bool) → 0 < sid → sid ≤ 8191 → 4 ≤ start → start ≤ 25
    → IsPossibleFlow channel 12 960 (voice_at sid start rests)
unfolding first_fault
voice-possible sid start rests some most late early = record {
  sid_positive = some;
  sid_most = most;
  parameters = refl;
  bytes = record { within_asked = lit≤ tt; asked_most = lit≤ tt };
  last = refl;
  levels = record { sustained = refl; peak = refl; reserved = refl };
  place = (
    refl,
    record {
      phase = lit< tt;
      after_requests = lit≤ tt;
      within_frame = lit< tt;
      starts = voice-starts start rests late early;
      rests = λ yes. record { unsolicited = refl; room = lit≤ tt };
    },
  );
  batches = refl;
}

polled-possible : IsPossibleFlow channel 12 960 polled
unfolding first_fault
polled-possible = record {
  sid_positive = lit< tt;
  sid_most = lit≤ tt;
  parameters = refl;
  bytes = record { within_asked = lit≤ tt; asked_most = lit≤ tt };
  last = (lit< tt, (lit≤ tt, lit< tt));
  levels = record {
    sustained = (lit< tt, record { most = lit≤ tt; full = tt });
    peak = refl;
    reserved = refl;
  };
  place = (
    refl,
    record {
      phase = lit< tt;
      after_requests = lit≤ tt;
      within_frame = lit< tt;
      starts = record {
        count = refl;
        each = λ k low nominal.
            each-of-two (λ place. AreLawfulStarts channel polling 34 []
            (starts_in channel polling (placement_of channel polled_place) place)) here here k low;
      };
      rests = λ yes. absurd (cc);
    },
  );
  batches = refl;
} where
  here : AreLawfulStarts channel polling 34 [] (34 ∷ [])
  here = record {
    count = refl;
    in_turn = (lit≤ tt, tt);
    each = (record { after_nominal = lit≤ tt; within_jitter = lit≤ tt; within_frame = lit≤ tt; free = tt }, tt);
  }

two-batches-possible : IsPossibleFlow channel 12 960 in_two_batches
unfolding first_fault
two-batches-possible = record {
  sid_positive = lit< tt;
  sid_most = lit≤ tt;
  parameters = refl;
  bytes = record { within_asked = lit≤ tt; asked_most = lit≤ tt };
  last = (lit< tt, (lit≤ tt, lit< tt));
  levels = record {
    sustained = (lit< tt, record { most = lit≤ tt; full = tt });
    peak = refl;
    reserved = refl;
  };
  place = refl;
  batches = record {
    outstanding = lit< tt;
    end_most = lit≤ tt;
    second = ((λ none. absurd (cc)), (λ same. absurd (omega (arith, same))));
    first_heard = (lit≤ tt, lit< tt);
    second_heard = (lit≤ tt, lit< tt);
  };
}

one-batch-possible : IsPossibleFlow channel 12 960 in_one_batch
unfolding first_fault
one-batch-possible = record {
  sid_positive = lit< tt;
  sid_most = lit≤ tt;
  parameters = refl;
  bytes = record { within_asked = lit≤ tt; asked_most = lit≤ tt };
  last = refl;
  levels = record {
    sustained = refl;
    peak = (lit< tt, record { most = lit≤ tt; full = refl });
    reserved = (lit< tt, record { most = lit≤ tt; full = refl });
  };
  place = refl;
  batches = record {
    outstanding = lit< tt;
    end_most = lit≤ tt;
    second = ((λ none. refl), (λ same. refl));
    first_heard = (lit≤ tt, lit< tt);
    second_heard = tt;
  };
}

-- what they take of both frames stands beside one another
places-possible : (k : ℕ) → k < 2 → MayStandTogether (spots_in channel k (placed_in channel state.flows))
places-possible = each-of-two (λ k. MayStandTogether (spots_in channel k (placed_in channel state.flows))) (record {
  apart = ((inl (lit≤ tt), (inl (lit≤ tt), tt)), ((inl (lit≤ tt), tt), (tt, tt)));
  few = lit≤ tt;
}) (record { apart = (tt, tt); few = lit≤ tt })

-- the state is possible
pub a_state_with_all_kinds_of_things_is_possible : IsPossible channel state
a_state_with_all_kinds_of_things_is_possible = record {
  entries = lit≤ tt;
  times = record {
    receivers = refl;
    ack_least = lit≤ tt;
    acknowledged = (lit≤ tt, tt);
    described = (lit≤ tt, tt);
    next_most = lit≤ tt;
    next_aligned = refl;
  };
  header = record {
    ranging_start = lit≤ tt;
    ranging_end = lit≤ tt;
    data_start = lit≤ tt;
    data_end = lit≤ tt;
  };
  change = record { aligned = refl; least = lit≤ tt; most = lit≤ tt };
  sids = (
    (lit< tt, (lit< tt, (lit< tt, (lit< tt, tt)))),
    ((lit< tt, (lit< tt, (lit< tt, tt))), ((lit< tt, (lit< tt, tt)), ((lit< tt, tt), (tt, tt)))),
  );
  limits = record { flows_most = lit≤ tt; grants_most = lit≤ tt };
  flows = (
    voice-possible 5 4 true (lit< tt) (lit≤ tt) (lit≤ tt) (lit≤ tt),
    (
      voice-possible 6 19 false (lit< tt) (lit≤ tt) (lit≤ tt) (lit≤ tt),
      (polled-possible, (two-batches-possible, (one-batch-possible, tt))),
    ),
  );
  places = places-possible;
  shown = lit≤ tt;
  reserves = record {
    few = lit≤ tt;
    each = (
      record { sid = refl; some = lit< tt; fits = lit≤ tt; waits = lit< tt },
      (record { sid = refl; some = lit< tt; fits = lit≤ tt; waits = lit< tt }, tt),
    );
    in_order = ((lit≤ tt, tt), (tt, tt));
  };
}
