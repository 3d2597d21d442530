-- Batches do what the batches that their state tells do.
use Rattle.std.proofs.Common.{◌≡◌, ◌≢◌, refl, ℕ, ◌<◌, ◌≤◌, ◌==◌, min, Bool, true, false, cond, nat_le}
use Rattle.std.proofs.Common.{None, Some, unwrap_or, inl, inr, arith}
use Rattle.std.proofs.lemmas.Bool.{cases_eq}
use Rattle.std.proofs.lemmas.Bool.Decides.{nat_tests}
use Rattle.flow_book.specs.Batches.{is_over, with_request, since_of}
use Rattle.flow_book.specs.declared.batches.Batches.{Batches}
use Rattle.flow_book.specs.FlowState.{batch_state}
use Rattle.flow_book.specs.Carried.{carried_batches}

module _ (b : Batches) (asked given : ℕ) where
  -- the batches that the state tells, where bytes are outstanding
  abbrev told : Bool → Batches
  told over = carried_batches (cond over
      (Some (record { end = asked; first = unwrap_or b.second b.first; second = None }))
      (Some (record { end = b.end; first = b.first; second = b.second })))

  -- they have the same state when more is granted
  pub state-carried : (later : ℕ) → given ≤ later → later ≤ asked
      → batch_state (carried_batches (batch_state b asked given)) asked later ≡ batch_state b asked later
  state-carried later more within = elim (cases_eq asked later) [
    | inl same ↦ (let all : (asked == later) ≡ true = grind (arith, nat_tests) in rw all refl)
    | inr differ ↦ (
        let some : (asked == given) ≡ false = grind (arith, nat_tests) in
        let left : (asked == later) ≡ false = grind (arith, nat_tests) in
        rw some (by-over differ (is_over b given) refl))
  ]
    where
      by-over : asked ≢ later → (over : Bool) → is_over b given ≡ over
          → batch_state (told over) asked later ≡ batch_state b asked later
      by-over differ true is =
          let left : (asked == later) ≡ false = grind (arith, nat_tests) in
          let open' : nat_le asked later ≡ false = grind (arith, nat_tests) in
          let over : nat_le b.end later ≡ true = grind (arith, nat_tests) in
          rw (left, open', over) refl
      by-over differ false is = refl

  module _ (bytes heard : ℕ) where
    -- batches with a request, where bytes are outstanding
    abbrev joined : Batches → Bool → Batches
    joined b over = cond over
        (record { end = asked; first = unwrap_or b.second b.first; second = Some heard })
        (record { end = b.end; first = b.first; second = Some (min (unwrap_or b.second heard) heard) })

    joined-told : (over all : Bool) → (over ≡ false → all ≡ false) → joined (told over) all ≡ joined b over
    joined-told true true is = refl
    joined-told true false is =
        let same : min heard heard ≡ heard = omega arith in
        rw same refl
    joined-told false true is = absurd (let is' = is refl in cc)
    joined-told false false is = refl

    -- and with one request more they are the same
    pub request-carried : with_request (carried_batches (batch_state b asked given)) asked given bytes heard
        ≡ with_request b asked given bytes heard
    request-carried = elim (cases_eq asked given) [
      | inl same ↦ (let all : (asked == given) ≡ true = grind (arith, nat_tests) in rw all refl)
      | inr differ ↦ (let some : (asked == given) ≡ false = grind (arith, nat_tests) in
          rw some (joined-told (is_over b given) (is_over (told (is_over b given)) given) (λ is. rw is is)))
    ]

  -- where bytes are outstanding the least minislot in which a request was heard is the same
  pub since-carried : given < asked → since_of (carried_batches (batch_state b asked given)) given ≡ since_of b given
  since-carried waits =
      let some : (asked == given) ≡ false = grind (arith, nat_tests) in
      rw some (by-over (is_over b given) refl)
    where
      by-over : (over : Bool) → is_over b given ≡ over → since_of (told over) given ≡ since_of b given
      by-over true is =
          let open' : nat_le asked given ≡ false = grind (arith, nat_tests) in
          rw (open', is) (omega arith)
      by-over false is = refl
