-- A flow is under its reservation where the bucket of that has what the flow wants at least.
use Rattle.std.proofs.Common.{◌≡◌, ◌≢◌, refl, sym, ℕ, zero, suc, ◌+◌, ◌*◌, ◌<◌, ◌≤◌, ◌==◌, Bool, true, false}
use Rattle.std.proofs.Common.{◌&&◌, nat_lt, nat_le, List, [], ◌∷◌, drop, length, inl, inr, arith}
use Rattle.std.proofs.lemmas.Bool.{cases_eq}
use Rattle.std.proofs.lemmas.Bool.Decides.{nat_tests}
use Rattle.minislots.specs.declared.config.Config.{Config}
use Rattle.sched_calls.specs.FlowSpec.{reserved_of, reserved_burst_of}
use Rattle.flow_book.specs.declared.limits.Limits.{Limits}
use Rattle.flow_book.specs.Flows.{LiveFlow, Charge, charge_of, tokens_of, HaveStartedBy, AreMadeBy}
use Rattle.flow_book.specs.Ceiling.{start_of}
use Rattle.flow_book.specs.Bucket.{BucketView, LeaveAtLeast, StandsFor, level_of, most_of, reserves}
use Rattle.flow_book.specs.Limits.{ChargesAtGrants, AreLimitsOf}
use Rattle.flow_book.specs.Reserved.{is_within, wanted_of, wanted_charge, is_under}
use Rattle.flow_book.proofs.Buckets.{no-ceiling, most-limited}

-- both of two tests hold that hold together
pub both-hold : (a b : Bool) → (a && b) ≡ true → (a ≡ true) × (b ≡ true)
both-hold true true is = (refl, refl)
both-hold true false is = absurd (cc)
both-hold false b is = absurd (cc)

module _ (c : Config) (rate burst slot n : ℕ) where
  abbrev one : Charge
  one = charge_of (record { start = slot; bytes = n })

  -- one charge more keeps a rate and a burst where its tokens are no more than each window leaves
  left-of : (charges : List Charge) → is_within c rate burst one charges ≡ true
      → LeaveAtLeast c rate burst charges slot (1280000 * n)
  left-of [] is = record { empty = grind (arith, nat_tests); each = λ i lt. absurd (omega arith) }
  left-of (h ∷ charges) is =
      let both = both-hold (nat_le (tokens_of (h ∷ charges) + 1280000 * n + h.start * c.ticks * rate)
      (slot * c.ticks * rate + 1280000 * burst)) (is_within c rate burst one charges) is in
      let more = left-of charges both.1 in
      record {
        empty = more.empty;
        each = λ i lt. each-of i lt both.0 more;
      }
    where
      each-of : (i : ℕ) → i < length (h ∷ charges)
          → nat_le (tokens_of (h ∷ charges) + 1280000 * n + h.start * c.ticks * rate)
          (slot * c.ticks * rate + 1280000 * burst) ≡ true → LeaveAtLeast c rate burst charges slot (1280000 * n)
          → tokens_of (drop i (h ∷ charges)) + 1280000 * n
          + start_of (h ∷ charges) i * c.ticks * rate ≤ slot * c.ticks * rate + 1280000 * burst
      each-of zero lt here more = grind (arith, nat_tests)
      each-of (suc i) lt here more = more.each i (omega arith)

  -- and only there
  within-of : (charges : List Charge) → LeaveAtLeast c rate burst charges slot (1280000 * n)
      → is_within c rate burst one charges ≡ true
  within-of [] is = let le = is.empty in grind (arith, nat_tests)
  within-of (h ∷ charges) is =
      let le = is.each 0 (omega arith) in
      let first : nat_le (tokens_of (h ∷ charges) + 1280000 * n + h.start * c.ticks * rate)
      (slot * c.ticks * rate + 1280000 * burst) ≡ true = grind (arith, nat_tests) in
      rw (first, within-of charges (record { empty = is.empty; each = λ i lt. is.each (suc i) (omega arith) })) refl

module _ (c : Config) (rate burst slot n : ℕ) (b : BucketView) (charges : List Charge)
    (stands : StandsFor c rate burst b charges) (began : AreMadeBy slot charges) where
  within-by : (w : Bool) → is_within c rate burst (one c rate burst slot n) charges ≡ w → 0 < rate → b.per_slot ≢ 0
      → w ≡ reserves b slot n
  within-by true is some limited =
      let le = (stands.level some slot began).greatest (1280000 * n) (left-of c rate burst slot n charges is) in
      let most = most-limited b slot n limited in
      let whole : (most_of b slot n == n) ≡ true = grind (arith, nat_tests) in
      let has : (b.per_slot == 0) ≡ false = grind (arith, nat_tests) in
      sym (rw (whole, has) refl)
  within-by false is some limited =
      let most = most-limited b slot n limited in
      let left : 1280000 * n ≤ level_of b slot → LeaveAtLeast c rate burst charges slot (1280000 * n) = λ le.
      let of = (stands.level some slot began).left in
      record {
        empty = omega (arith, of.empty, le);
        each = λ i lt. omega (arith, of.each i lt, le);
      } in
      let over : 1280000 * n ≤ level_of b slot → ⊥ = λ le.
      let yes' = within-of c rate burst slot n charges (left le) in absurd (cc) in
      let fails : (most_of b slot n == n) ≡ false = elim (cases_eq (most_of b slot n) n) [
        | inl same ↦ absurd (over (omega (arith, most, same)))
        | inr differ ↦ grind (arith, nat_tests)
      ] in
      let has : (b.per_slot == 0) ≡ false = grind (arith, nat_tests) in
      sym (rw (fails, has) refl)

  -- charges with one more keep a reserved rate and its burst where the bucket reserves its bytes
  pub within-reserves : (nat_lt 0 rate && is_within c rate burst (one c rate burst slot n) charges) ≡ reserves b slot n
  within-reserves = elim (cases_eq rate 0) [
    | inl none ↦ (
        let slow : b.per_slot ≡ 0 = let is = rw none at stands.per_slot in omega (arith, is) in
        let no' : nat_lt 0 rate ≡ false = grind (arith, nat_tests) in
        let has : (b.per_slot == 0) ≡ true = grind (arith, nat_tests) in
        rw (no', has) refl)
    | inr some ↦ (
        let limited : b.per_slot ≢ 0 = λ none. some (no-ceiling c rate burst b charges stands none) in
        let yes' : nat_lt 0 rate ≡ true = grind (arith, nat_tests) in
        rw yes' (within-by (is_within c rate burst (one c rate burst slot n) charges) refl (omega arith) limited))
  ]

-- so a flow is under its reservation where its bucket reserves what the flow wants at least
pub under-reserves : (c : Config) (f : LiveFlow) (l : Limits) (slot : ℕ) → AreLimitsOf c f l → ChargesAtGrants f
    → HaveStartedBy slot f.grants → is_under c slot f ≡ reserves l.reserved slot (wanted_of c f)
under-reserves c f l slot are has started =
    within-reserves c (reserved_of f.spec) (reserved_burst_of f.spec) slot (wanted_of c f) l.reserved
    f.reserved are.reserved (has.reserved slot started)

-- a flow under its reservation has one
pub under-reserved : (c : Config) (slot : ℕ) (f : LiveFlow) → is_under c slot f ≡ true → 0 < reserved_of f.spec
under-reserved c slot f is =
    let both = both-hold (nat_lt 0 (reserved_of f.spec)) (is_within c (reserved_of f.spec) (reserved_burst_of f.spec)
    (wanted_charge c slot f) f.reserved) is in
    let some = both.0 in
    grind (arith, nat_tests)
