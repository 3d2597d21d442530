-- Worked examples of data grants under a rate ceiling.
use Rattle.std.proofs.Common.{ℕ, zero, suc, ◌+◌, ◌*◌, ◌<◌, ◌≤◌, List, [], ◌∷◌, refl, inl, lit<, lit≤, arith}
use Rattle.sched_calls.specs.declared.spec.FlowSpec.TheVariants.{Polled, BestEffort}
use Rattle.flow_book.specs.declared.flow.Grant.{Grant}
use Rattle.flow_book.proofs.Profile.{one_request}
use Rattle.flow_book.specs.Flows.{LiveFlow, charges_of, tokens_of}
use Rattle.flow_book.specs.Ceiling.{window, start_of}
use Rattle.flow_book.specs.Choice.{MayTake, MayGrant, IsAmount, IsEligible, IsNext}
use Rattle.sched_calls.proofs.Base.{base}
use Rattle.flow_book.proofs.Unlimited.{KeepsWith-peakless}

-- a flow of 64000 bits in a second and bursts of 1600 bytes that asked 3000 bytes, with these grants
abbrev pub under_ceiling : List Grant → LiveFlow
under_ceiling grants = record {
  sid = 17;
  spec = BestEffort 3 64000 1600 0 0 0;
  asked = 3000;
  batches = one_request 3000 801;
  grants = grants;
  sustained = charges_of grants;
  peak = charges_of grants;
  reserved = [];
}

-- a grant
abbrev pub grant : ℕ → ℕ → Grant
grant start bytes = record { start = start; bytes = bytes }

-- its first grant with one more at 884
abbrev two : ℕ → List Grant
two bytes = grant 844 544 ∷ grant 884 bytes ∷ []

-- before its second grant it may take up to 544 bytes at 884
kept_by_two : (bytes : ℕ) → bytes ≤ 544 → (i j : ℕ) → i ≤ j → j < 2
    → tokens_of (window (charges_of (two bytes)) i j) + start_of (charges_of (two bytes)) i * 4 * 64000
    ≤ start_of (charges_of (two bytes)) j * 4 * 64000 + 1280000 * 1600
kept_by_two bytes few zero zero h k = lit≤ tt
kept_by_two bytes few zero (suc zero) h k = omega arith
kept_by_two bytes few (suc zero) zero h k = absurd (omega arith)
kept_by_two bytes few (suc zero) (suc zero) h k = omega arith
kept_by_two bytes few (suc (suc i)) zero h k = absurd (omega arith)
kept_by_two bytes few (suc (suc i)) (suc zero) h k = absurd (omega arith)
kept_by_two bytes few i (suc (suc j)) h k = absurd (omega arith)

may_take_second : (bytes : ℕ) → bytes ≤ 544 → MayTake base (under_ceiling (grant 844 544 ∷ [])) 884 36 bytes
may_take_second bytes few = record {
  ceiling = KeepsWith-peakless base (under_ceiling (grant 844 544 ∷ [])) 884 bytes refl refl
      (λ positive. kept_by_two bytes few);
  fits = omega arith;
}

-- its second grant is bounded by the room, not by the ceiling
pub the_second_grant_fills_the_room : IsAmount base (under_ceiling (grant 844 544 ∷ [])) 884 36 544
the_second_grant_fills_the_room = record {
  allowed = record { positive = lit< tt; asked = lit≤ tt; capped = lit≤ tt; taken = may_take_second 544 (lit≤ tt) };
  greatest = λ more may. omega (arith, may.taken.fits);
}

-- alone it is next
pub a_flow_with_one_grant_is_next : IsNext base (under_ceiling (grant 844 544 ∷ []) ∷ []) 884 36
    (under_ceiling (grant 844 544 ∷ []))
a_flow_with_one_grant_is_next = record {
  live = (0, lit< tt, refl);
  eligible = record { serves = refl; waits = lit< tt; takes = may_take_second 64 (lit≤ tt) };
  first = ((λ e. inl refl), tt);
}

-- the flow with two grants of 544 bytes, and 1912 bytes to be granted
abbrev pub limited : LiveFlow
limited = under_ceiling (grant 844 544 ∷ grant 884 544 ∷ [])

-- its grants with one more at 924
abbrev pub three : ℕ → List Grant
three bytes = grant 844 544 ∷ grant 884 544 ∷ grant 924 bytes ∷ []

-- each window of three grants with at most 528 bytes in the last keeps the ceiling
pub kept : (bytes : ℕ) → bytes ≤ 528 → (i j : ℕ) → i ≤ j → j < 3
    → tokens_of (window (charges_of (three bytes)) i j) + start_of (charges_of (three bytes)) i * 4 * 64000
    ≤ start_of (charges_of (three bytes)) j * 4 * 64000 + 1280000 * 1600
kept bytes few zero zero h k = lit≤ tt
kept bytes few zero (suc zero) h k = lit≤ tt
kept bytes few zero (suc (suc zero)) h k = omega arith
kept bytes few (suc zero) zero h k = absurd (omega arith)
kept bytes few (suc zero) (suc zero) h k = lit≤ tt
kept bytes few (suc zero) (suc (suc zero)) h k = omega arith
kept bytes few (suc (suc i)) zero h k = absurd (omega arith)
kept bytes few (suc (suc i)) (suc zero) h k = absurd (omega arith)
kept bytes few (suc (suc zero)) (suc (suc zero)) h k = omega arith
kept bytes few (suc (suc (suc i))) (suc (suc zero)) h k = absurd (omega arith)
kept bytes few i (suc (suc (suc j))) h k = absurd (omega arith)

-- at 924 the flow may take 528 bytes
may_take : (bytes : ℕ) → bytes ≤ 528 → MayTake base limited 924 36 bytes
may_take bytes few = record { ceiling = KeepsWith-peakless base limited 924 bytes refl refl (λ positive. kept bytes few); fits = omega arith }

-- more bytes would break the ceiling over the window of all three
most : (more : ℕ) → MayGrant base limited 924 36 more → more ≤ 528
most more may = let all = may.taken.ceiling.sustained (lit< tt) 0 2 (lit≤ tt) (lit< tt) in omega arith

-- the third grant has what is left of the burst and of the bytes for 80 minislots: 528
pub the_third_grant_is_at_the_ceiling_to_the_byte : IsAmount base limited 924 36 528
the_third_grant_is_at_the_ceiling_to_the_byte = record {
  allowed = record { positive = lit< tt; asked = lit≤ tt; capped = lit≤ tt; taken = may_take 528 (lit≤ tt) };
  greatest = most;
}

-- alone it is next, since it may take the quantum
pub a_flow_below_its_ceiling_is_next : IsNext base (limited ∷ []) 924 36 limited
a_flow_below_its_ceiling_is_next = record {
  live = (0, lit< tt, refl);
  eligible = record { serves = refl; waits = lit< tt; takes = may_take 64 (lit≤ tt) };
  first = ((λ e. inl refl), tt);
}

-- the flow with its third grant, and 1384 bytes to be granted
abbrev pub exhausted : LiveFlow
exhausted = under_ceiling (three 528)

-- a frame later it may take 8 bytes, less than the quantum, and is not eligible
pub a_flow_at_its_ceiling_is_not_eligible : IsEligible base 964 36 exhausted → ⊥
a_flow_at_its_ceiling_is_not_eligible e = let all = e.takes.ceiling.sustained (lit< tt) 0 3 (lit≤ tt) (lit< tt) in omega arith

-- the flow with two grants, polled each five frames under the same ceiling
abbrev pub polled_limited : LiveFlow
polled_limited = record limited { spec = Polled 5000 0 64000 1600 0 }

polled_may_take : (bytes : ℕ) → bytes ≤ 528 → MayTake base polled_limited 924 36 bytes
polled_may_take bytes few = record { ceiling = KeepsWith-peakless base polled_limited 924 bytes refl refl (λ positive. kept bytes few); fits = omega arith }

polled_most : (more : ℕ) → MayGrant base polled_limited 924 36 more → more ≤ 528
polled_most more may = let all = may.taken.ceiling.sustained (lit< tt) 0 2 (lit≤ tt) (lit< tt) in omega arith

-- its third grant has the same 528 bytes
pub the_third_grant_of_a_polled_flow_is_at_the_ceiling_to_the_byte : IsAmount base polled_limited 924 36 528
the_third_grant_of_a_polled_flow_is_at_the_ceiling_to_the_byte = record {
  allowed = record { positive = lit< tt; asked = lit≤ tt; capped = lit≤ tt; taken = polled_may_take 528 (lit≤ tt) };
  greatest = polled_most;
}

-- and a frame later it is not eligible
pub a_polled_flow_at_its_ceiling_is_not_eligible :
    IsEligible base 964 36 (record exhausted { spec = Polled 5000 0 64000 1600 0 }) → ⊥
a_polled_flow_at_its_ceiling_is_not_eligible e =
    let all = e.takes.ceiling.sustained (lit< tt) 0 3 (lit≤ tt) (lit< tt) in omega arith
