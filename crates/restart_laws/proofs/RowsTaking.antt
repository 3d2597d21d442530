-- Worked examples of what a flow with a carried grant may take: what the flow may take that has all its grants.
use Rattle.std.proofs.Common.{◌≡◌, ℕ, zero, suc, ◌+◌, ◌-◌, ◌*◌, ◌≤◌, [], ◌∷◌, true, false, refl, inl, lit<, lit≤}
use Rattle.std.proofs.Common.{arith}
use Rattle.std.specs.Prelude.{Some}
use Rattle.minislots.specs.declared.config.Config.{Config}
use Rattle.sched_calls.specs.declared.spec.FlowSpec.TheVariants.{BestEffort}
use Rattle.sched_calls.proofs.Base.{base}
use Rattle.flow_book.specs.Ceiling.{KeepsCeiling}
use Rattle.flow_book.specs.Choice.{MayTake, IsAmount, IsEligible, IsNext, is_before, last_start}
use Rattle.flow_book.specs.Flows.{LiveFlow, Charge, granted, outstanding}
use Rattle.flow_book.specs.FlowState.{flow_state}
use Rattle.flow_book.specs.Reserved.{is_under, rank_at, with_grant}
use Rattle.flow_book.specs.Shown.{since}
use Rattle.flow_book.specs.Book.{with_asked, with_replaced, with_spec}
use Rattle.flow_book.proofs.RowsCeiling.{grant, limited, exhausted}
use Rattle.flow_book.proofs.Unlimited.{KeepsWith-peakless}
use Rattle.restart_laws.proofs.RowsCarried.{carried_of, charge, reserving}

-- two charges keep a rate where each is within the burst, and both are within it and what the rate brings in between
KeepsCeiling-two : (c : Config) (rate burst : ℕ) (a b : Charge) → a.tokens ≤ 1280000 * burst
    → b.tokens ≤ 1280000 * burst
    → a.tokens + b.tokens + a.start * c.ticks * rate ≤ b.start * c.ticks * rate + 1280000 * burst
    → KeepsCeiling c rate burst (a ∷ b ∷ [])
KeepsCeiling-two c rate burst a b few also both limited zero zero h k = omega arith
KeepsCeiling-two c rate burst a b few also both limited zero (suc zero) h k = omega arith
KeepsCeiling-two c rate burst a b few also both limited (suc zero) zero h k = absurd (omega arith)
KeepsCeiling-two c rate burst a b few also both limited (suc zero) (suc zero) h k = omega arith
KeepsCeiling-two c rate burst a b few also both limited (suc (suc i)) zero h k = absurd (omega arith)
KeepsCeiling-two c rate burst a b few also both limited (suc (suc i)) (suc zero) h k = absurd (omega arith)
KeepsCeiling-two c rate burst a b few also both limited i (suc (suc j)) h k = absurd (omega arith)

-- the flow that was granted 544 bytes at 844 and at 884, with the carried grant alone: 1080 bytes are spent at 884
abbrev pub resumed : LiveFlow
resumed = carried_of limited

-- at 924 it may take 528 bytes, as the flow may
may_take : (bytes : ℕ) → bytes ≤ 528 → MayTake base resumed 924 36 bytes
may_take bytes few = record {
  ceiling = KeepsWith-peakless base resumed 924 bytes refl refl (KeepsCeiling-two base 64000 1600
      (charge 884 (1280000 * 1080)) (charge 924 (1280000 * bytes)) (lit≤ tt) (omega arith) (omega arith));
  fits = omega arith;
}

-- its grant there is at the ceiling to the byte, as the flow's
pub the_grant_behind_a_carried_one_is_at_the_ceiling_to_the_byte : IsAmount base resumed 924 36 528
the_grant_behind_a_carried_one_is_at_the_ceiling_to_the_byte = record {
  allowed = record { positive = lit< tt; asked = lit≤ tt; capped = lit≤ tt; taken = may_take 528 (lit≤ tt) };
  greatest = λ more may. let all = may.taken.ceiling.sustained (lit< tt) 0 1 (lit≤ tt) (lit< tt) in omega arith;
}

-- alone it is next
pub a_flow_with_a_carried_grant_is_next : IsNext base (resumed ∷ []) 924 36 resumed
a_flow_with_a_carried_grant_is_next = record {
  live = (0, lit< tt, refl);
  eligible = record { serves = refl; waits = lit< tt; takes = may_take 64 (lit≤ tt) };
  first = ((λ e. inl refl), tt);
}

-- a minislot earlier 528 bytes are too many for both
pub a_minislot_earlier_they_are_too_many : (MayTake base limited 923 36 528 → ⊥)
    × (MayTake base resumed 923 36 528 → ⊥)
a_minislot_earlier_they_are_too_many = (
  (λ may. let all = may.ceiling.sustained (lit< tt) 0 2 (lit≤ tt) (lit< tt) in omega arith),
  (λ may. let all = may.ceiling.sustained (lit< tt) 0 1 (lit≤ tt) (lit< tt) in omega arith),
)

-- with so many tokens spent they may be taken at 924, and with one more they may not
pub one_token_more_is_too_much : MayTake base resumed 924 36 528
    × (MayTake base (record resumed { sustained = charge 884 (1280000 * 1080 + 1) ∷ [] }) 924 36 528 → ⊥)
one_token_more_is_too_much = (
  may_take 528 (lit≤ tt),
  (λ may. let all = may.ceiling.sustained (lit< tt) 0 1 (lit≤ tt) (lit< tt) in omega arith),
)

-- the flow with a third grant, of 528 bytes at 924, has nothing left there: all of its burst is spent
abbrev pub emptied : LiveFlow
emptied = carried_of exhausted

pub a_carried_grant_may_spend_the_whole_burst : (emptied.grants ≡ grant 924 1616 ∷ [])
    × (emptied.sustained ≡ charge 924 (1280000 * 1600) ∷ [])
a_carried_grant_may_spend_the_whole_burst = (refl, refl)

-- the quantum has come back 320 minislots later: up to then it is not eligible, and there it is
pub the_quantum_comes_back_to_the_minislot : (IsEligible base 964 36 emptied → ⊥)
    × (IsEligible base 1243 36 emptied → ⊥)
    × (IsEligible base 1243 36 exhausted → ⊥)
    × IsEligible base 1244 36 emptied
the_quantum_comes_back_to_the_minislot = (
  (λ e. let all = e.takes.ceiling.sustained (lit< tt) 0 1 (lit≤ tt) (lit< tt) in omega arith),
  (λ e. let all = e.takes.ceiling.sustained (lit< tt) 0 1 (lit≤ tt) (lit< tt) in omega arith),
  (λ e. let all = e.takes.ceiling.sustained (lit< tt) 0 3 (lit≤ tt) (lit< tt) in omega arith),
  record {
    serves = refl;
    waits = lit< tt;
    takes = record {
      ceiling = KeepsWith-peakless base emptied 1244 64 refl refl (KeepsCeiling-two base 64000 1600
          (charge 924 (1280000 * 1600)) (charge 1244 (1280000 * 64)) (lit≤ tt) (lit≤ tt) (lit≤ tt));
      fits = lit≤ tt;
    };
  },
)

-- behind another burst, which begins a period, the carried grant takes nothing of it: 600 bytes are there, and no more
pub a_carried_grant_takes_nothing_of_a_later_period :
    MayTake base (carried_of (with_spec (BestEffort 3 64000 600 0 0 0) limited)) 924 100 600
    × (MayTake base (carried_of (with_spec (BestEffort 3 64000 600 0 0 0) limited)) 924 100 601 → ⊥)
a_carried_grant_takes_nothing_of_a_later_period = (
  record {
    ceiling = KeepsWith-peakless base (carried_of (with_spec (BestEffort 3 64000 600 0 0 0) limited)) 924 600 refl refl
        (KeepsCeiling-two base 64000 600 (charge 884 0) (charge 924 (1280000 * 600)) (lit≤ tt) (lit≤ tt) (lit≤ tt));
    fits = lit≤ tt;
  },
  (λ may. let all = may.ceiling.sustained (lit< tt) 1 1 (lit≤ tt) (lit< tt) in omega arith),
)

-- a flow that was granted 64 bytes at 844, under its reservation, and 500 at 850, not under it, has the quantum of its
-- reservation again at 884, and not a minislot earlier; with the carried grant alone as with both
pub a_reservation_comes_back_to_the_minislot : (is_under base 883 reserving ≡ false)
    × (is_under base 884 reserving ≡ true)
    × (is_under base 883 (carried_of reserving) ≡ false)
    × (is_under base 884 (carried_of reserving) ≡ true)
    × (rank_at base 883 (carried_of reserving) ≡ 3)
    × (rank_at base 884 (carried_of reserving) ≡ 8)
a_reservation_comes_back_to_the_minislot = (refl, refl, refl, refl, refl, refl)

-- with what was spent at the last grant that is charged to it, 64 bytes at 844, it would not be under it at 884
pub what_was_spent_earlier_is_too_much :
    is_under base 884 (record (carried_of reserving) { reserved = charge 850 (1280000 * 64) ∷ [] }) ≡ false
what_was_spent_earlier_is_too_much = refl

-- so the next grant at 884 is charged to it in both, and one at 883 in neither
pub a_grant_is_charged_to_both_or_neither :
    (flow_state base (with_grant base (grant 884 64) (carried_of reserving))
    ≡ flow_state base (with_grant base (grant 884 64) reserving))
    × ((flow_state base (with_grant base (grant 884 64) reserving)).reserved ≡ Some 0)
    × (flow_state base (with_grant base (grant 883 64) (carried_of reserving))
    ≡ flow_state base (with_grant base (grant 883 64) reserving))
    × ((flow_state base (with_grant base (grant 883 64) reserving)).reserved ≡ Some (1280000 * 64 - 2048000))
a_grant_is_charged_to_both_or_neither = (refl, refl, refl, refl)

-- its turn is by the start of its last grant: a flow of the same rank with one at 849 goes before it, and one with one
-- at 850 by its SID
pub a_carried_grant_has_its_turn : (last_start (carried_of reserving).grants ≡ Some 850)
    × (is_before base 884 (record reserving { sid = 18; grants = grant 849 1 ∷ [] }) (carried_of reserving) ≡ true)
    × (is_before base 884 (record reserving { sid = 18; grants = grant 850 1 ∷ [] }) (carried_of reserving) ≡ false)
a_carried_grant_has_its_turn = (refl, refl, refl)

-- a flow with bytes outstanding in two batches, with the carried grant alone
abbrev batched : LiveFlow
batched = carried_of (record limited { batches = record { end = 1500; first = 805; second = Some 803 } })

-- it waits since the second was heard, another request joins that, and with the grant of 528 bytes the first is over
pub carried_batches_go_on : (since batched ≡ 803)
    × ((with_asked 100 802 batched).batches ≡ record { end = 1500; first = 805; second = Some 802 })
    × (since (with_grant base (grant 924 528) batched) ≡ 803)
    × ((with_asked 100 930 (with_grant base (grant 924 528) batched)).batches
    ≡ record { end = 3000; first = 803; second = Some 930 })
carried_batches_go_on = (refl, refl, refl, refl)

-- what is asked behind a carried grant is counted from it: 200 bytes in the place of those outstanding
pub a_replace_counts_from_the_carried_grant : (granted resumed ≡ 1088) × (outstanding resumed ≡ 1912)
    × ((with_replaced 200 930 resumed).asked ≡ 1288)
    × (outstanding (with_replaced 200 930 resumed) ≡ 200)
a_replace_counts_from_the_carried_grant = (refl, refl, refl, refl)
