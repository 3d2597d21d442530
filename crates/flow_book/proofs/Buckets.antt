-- The charges that a bucket stands for, before and after one more.
use Rattle.std.proofs.Common.{◌≡◌, ◌≢◌, refl, sym, ap, ◌∙◌, subst, ℕ, ◌+◌, ◌-◌, ◌*◌, ◌/◌, ◌<◌, ◌≤◌, ◌^◌, ◌==◌, min}
use Rattle.std.proofs.Common.{List, ◌++◌}
use Rattle.std.proofs.Common.{false, inl, inr, arith}
use Rattle.std.proofs.lemmas.Nat.{mul-lt, mul-le}
use Rattle.std.proofs.lemmas.Bool.{cases_eq}
use Rattle.std.proofs.lemmas.Bool.Decides.{nat_tests}
use Rattle.minislots.specs.declared.config.Config.{Config}
use Rattle.flow_book.specs.Flows.{Charge, and_grant, AreMadeBy}
use Rattle.flow_book.specs.Ceiling.{KeepsCeiling}
use Rattle.flow_book.specs.Bucket.{BucketView, level_of, most_of, StandsFor, IsLevel, IsSettled}
use Rattle.flow_book.proofs.Windows.{one_charge, start-end}
use Rattle.flow_book.proofs.Levels.{level-keeps, keeps-level, level-more}
use Rattle.flow_book.proofs.Started.{made-push, made-front}

-- what a rate brings in a minislot
pub slow : (ticks rate : ℕ) → ticks ≤ 128 → rate < 2 ^ 32 → ticks * rate < 2 ^ 40
slow ticks rate few low = omega (arith, mul-lt ticks rate 129 (2 ^ 32) (omega arith) low)

most-limit : (b : BucketView) (slot limit : ℕ) → b.per_slot ≡ 0 → most_of b slot limit ≡ limit
most-limit b slot limit none = rw none refl

-- with a ceiling the most are those of its level
pub most-limited : (b : BucketView) (slot limit : ℕ) → b.per_slot ≢ 0
    → most_of b slot limit ≡ min limit (level_of b slot / 1280000)
most-limited b slot limit some =
    let fails : (b.per_slot == 0) ≡ false = grind (arith, nat_tests) in
    rw fails refl

module _ (c : Config) (rate burst : ℕ) (b : BucketView) (charges : List Charge)
    (stands : StandsFor c rate burst b charges) where
  -- a bucket into which nothing comes has no ceiling
  pub no-ceiling : b.per_slot ≡ 0 → rate ≡ 0
  no-ceiling none = omega (arith, mul-le 1 rate c.ticks rate stands.ticks (omega arith), stands.per_slot)

  -- and one into which something comes has one
  pub some-ceiling : 0 < b.per_slot → 0 < rate
  some-ceiling some = elim (cases_eq rate 0) [
    | inl e ↦ (let is = stands.per_slot in let zero = rw e at is in absurd (omega arith))
    | inr differ ↦ omega arith
  ]

  -- where there is no ceiling it has nothing
  pub nothing-unlimited : (slot : ℕ) → rate ≡ 0 → level_of b slot ≡ 0
  nothing-unlimited slot none =
      let full : b.full ≡ 0 = rw none at stands.full in
      omega arith

  module _ (slot n : ℕ) (started : AreMadeBy slot charges) where
    -- the charges keep the ceiling with one more that the bucket has
    pub kept-more : n ≤ level_of b slot → KeepsCeiling c rate burst (charges ++ one_charge slot n)
    kept-more enough positive =
        level-keeps c rate burst charges slot n (level_of b slot) (stands.level positive slot started) stands.kept enough
        positive

    -- and not with one that it has not
    pub has-more : 0 < b.per_slot → KeepsCeiling c rate burst (charges ++ one_charge slot n)
        → n ≤ level_of b slot
    has-more some kept =
        let positive = some-ceiling some in
        keeps-level c rate burst charges slot n (level_of b slot) (stands.level positive slot started) positive kept

    -- the bucket after it
    abbrev pub spent : BucketView
    spent = record b { level = level_of b slot - n; since = slot }

    -- stands for the charges with this one more
    pub spent-stands : n ≤ level_of b slot → StandsFor c rate burst spent (charges ++ one_charge slot n)
    spent-stands enough = record {
      ticks = stands.ticks;
      per_slot = stands.per_slot;
      full = stands.full;
      kept = kept-more enough;
      since = λ later all. (made-front later charges _ all).1;
      level = λ positive later all.
          let full : b.full ≡ 1280000 * burst = grind (arith, nat_tests, stands.full) in
          let past = (made-front later charges _ all).1 in
          subst (λ m. IsLevel c rate burst (charges ++ one_charge slot n) later
          (min m (level_of b slot - n + (later - slot) * b.per_slot))) (sym full)
          (level-more c rate burst charges slot n (level_of b slot) (stands.level positive slot started) later b.per_slot
          past stands.per_slot enough);
    }

  module _ (slot n : ℕ) (started : AreMadeBy slot charges) where
    -- of the bytes up to a limit it has these at most
    pub most-within : (limit : ℕ) → most_of b slot limit ≤ limit
    most-within limit = elim (cases_eq b.per_slot 0) [
      | inl e ↦ (let most = most-limit b slot limit e in omega arith)
      | inr differ ↦ (let most = most-limited b slot limit differ in omega arith)
    ]

    -- each of which keeps the ceiling
    pub most-kept : (limit : ℕ) → n ≤ most_of b slot limit → KeepsCeiling c rate burst (and_grant charges slot n)
    most-kept limit le = elim (cases_eq b.per_slot 0) [
      | inl e ↦ (λ positive. absurd (omega (arith, no-ceiling e)))
      | inr differ ↦ (let most = most-limited b slot limit differ in kept-more slot (1280000 * n) started (omega arith))
    ]

    -- and no more does
    pub most-greatest : (limit : ℕ) → n ≤ limit → KeepsCeiling c rate burst (and_grant charges slot n)
        → n ≤ most_of b slot limit
    most-greatest limit le kept = elim (cases_eq b.per_slot 0) [
      | inl e ↦ (let most = most-limit b slot limit e in omega arith)
      | inr differ ↦ (let most = most-limited b slot limit differ in omega (arith, has-more slot (1280000 * n) started (omega arith) kept))
    ]

-- a bucket with a ceiling that has less is settled by one charge more, from its start on
pub settled-spent : (b : BucketView) (charges : List Charge) (slot n left : ℕ) → 0 < b.per_slot → left ≤ b.full
    → AreMadeBy slot charges
    → IsSettled (record b { level = left; since = slot }) (charges ++ one_charge slot n)
settled-spent b charges slot n left some within started = record {
  level = within;
  started = λ limited. made-push slot charges (record { start = slot; tokens = n }) started (omega arith);
  last = λ limited. sym (start-end charges slot n);
  first = λ none. absurd (omega (arith, none, some));
}

-- at the minislot from which on it is counted a bucket has its level
pub level-now : (b : BucketView) (slot : ℕ) → b.level ≤ b.full → slot ≡ b.since → level_of b slot ≡ b.level
level-now b slot within same =
    let none : slot - b.since ≡ 0 = omega arith in
    rw none (omega arith)

pub same-fields : (x y : BucketView) → x.per_slot ≡ y.per_slot → x.full ≡ y.full → x.level ≡ y.level → x.since ≡ y.since
    → x ≡ y
same-fields x y per full level since =
    ap (λ n. record { per_slot = n; full = x.full; level = x.level; since = x.since }) per
    ∙ ap (λ n. record { per_slot = y.per_slot; full = n; level = x.level; since = x.since }) full
    ∙ ap (λ n. record { per_slot = y.per_slot; full = y.full; level = n; since = x.since }) level
    ∙ ap (λ n. record { per_slot = y.per_slot; full = y.full; level = y.level; since = n }) since

-- the charges that it stands for decide a bucket
pub same-bucket : (c : Config) (rate burst : ℕ) (x y : BucketView) (charges : List Charge)
    → StandsFor c rate burst x charges
    → StandsFor c rate burst y charges → IsSettled x charges → IsSettled y charges → x ≡ y
same-bucket c rate burst x y charges stands stands' is is' =
    let per : x.per_slot ≡ y.per_slot = stands.per_slot ∙ sym stands'.per_slot in
    let full : x.full ≡ y.full = stands.full ∙ sym stands'.full in
    elim (cases_eq x.per_slot 0) [
      | inl none ↦ (
          let free = no-ceiling c rate burst x charges stands none in
          let empty : x.full ≡ 0 = rw free at stands.full in
          same-fields x y per full (omega (arith, is.level, is'.level)) (omega (
            arith,
            is.first none,
            is'.first
                (sym per ∙ none),
          )))
      | inr differ ↦ (
          let some : 0 < x.per_slot = omega arith in
          let some' : 0 < y.per_slot = omega arith in
          let limited = some-ceiling c rate burst x charges stands some in
          let early = stands.since y.since (is'.started some') in
          let late = stands'.since x.since (is.started some) in
          let since : x.since ≡ y.since = omega arith in
          let mine = stands.level limited x.since (is.started some) in
          let yours = stands'.level limited x.since (is.started some) in
          let below = mine.greatest (level_of y x.since) yours.left in
          let above = yours.greatest (level_of x x.since) mine.left in
          same-fields x y per full
          (omega (arith, below, above, level-now x x.since is.level refl, level-now y x.since is'.level since)) since)
    ]
