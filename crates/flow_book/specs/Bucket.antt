-- The token bucket of a flow: what it has at a minislot, and the charges that it stands for.
use Rattle.std.specs.Prelude.{◌≡◌, ℕ, ◌+◌, ◌-◌, ◌*◌, ◌/◌, ◌<◌, ◌≤◌, ◌==◌, min, List, length, drop}
use Rattle.std.specs.Prelude.{Bool, IsTrue, not, ◌&&◌, ◌↔◌, if◌then◌else◌}
use Rattle.minislots.specs.declared.config.Config.{Config}
use Rattle.flow_book.specs.Flows.{Charge, tokens_of, and_grant, AreMadeBy}
use Rattle.flow_book.specs.Ceiling.{start_of, KeepsCeiling}

-- A bucket, in tokens of 1/1280000 bytes: what the rate brings in a minislot, what the burst allows, and what there was
-- at the start of the last charge. Where there is no ceiling the first two are 0.
pub record BucketView : Type 0 where
  pub per_slot : ℕ
  pub full : ℕ
  pub level : ℕ
  pub since : ℕ

-- what there is at a minislot: the rate fills the bucket, which never has more than where it is full
abbrev pub level_of : BucketView → ℕ → ℕ
level_of b slot = min b.full (b.level + (slot - b.since) * b.per_slot)

-- Each window of charges that ends at the minislot leaves this much of the burst and of what the rate brings from the
-- window's first start on. The empty window leaves the burst.
pub record LeaveAtLeast (c : Config) (rate burst : ℕ) (charges : List Charge) (slot amount : ℕ) : Type 0 where
  pub empty : amount ≤ 1280000 * burst
  pub each : (i : ℕ) → i < length charges → tokens_of (drop i charges) + amount
      + start_of charges i * c.ticks * rate ≤ slot * c.ticks * rate + 1280000 * burst

-- the most that each window leaves, which is the least that one of them leaves
pub record IsLevel (c : Config) (rate burst : ℕ) (charges : List Charge) (slot level : ℕ) : Type 0 where
  pub left : LeaveAtLeast c rate burst charges slot level
  pub greatest : (more : ℕ) → LeaveAtLeast c rate burst charges slot more → more ≤ level

-- The bucket of a rate and a burst stands for some charges: they keep the ceiling, and at each minislot from the last
-- one on the bucket has what they leave.
pub record StandsFor (c : Config) (rate burst : ℕ) (b : BucketView) (charges : List Charge) : Type 0 where
  pub ticks : 0 < c.ticks
  pub per_slot : b.per_slot ≡ c.ticks * rate
  pub full : b.full ≡ (if rate == 0 then 0 else 1280000 * burst)
  pub kept : KeepsCeiling c rate burst charges
  pub since : (slot : ℕ) → AreMadeBy slot charges → b.since ≤ slot
  pub level : 0 < rate → (slot : ℕ) → AreMadeBy slot charges → IsLevel c rate burst charges slot (level_of b slot)

-- a level of charges that the bucket stands for: the least that their windows leave, and 0 where there is no ceiling
abbrev pub AnswersLevel : BucketView → ℕ → ℕ → Type 0
AnswersLevel b slot level = (c : Config) (rate burst : ℕ) (charges : List Charge)
    → StandsFor c rate burst b charges → AreMadeBy slot charges
    → (0 < rate → IsLevel c rate burst charges slot level) × (rate ≡ 0 → level ≡ 0)

-- the answer is true exactly where charges that the bucket stands for keep the ceiling with that of this grant
abbrev pub AnswersCeiling : BucketView → ℕ → ℕ → Bool → Type 0
AnswersCeiling b slot bytes taken = (c : Config) (rate burst : ℕ) (charges : List Charge)
    → StandsFor c rate burst b charges → AreMadeBy slot charges
    → IsTrue taken ↔ KeepsCeiling c rate burst (and_grant charges slot bytes)

-- where the one bucket stands for some charges that are made, the other stands for them with that of this grant
abbrev pub HasOneMore : BucketView → BucketView → ℕ → ℕ → Type 0
HasOneMore old new slot bytes = (c : Config) (rate burst : ℕ) (charges : List Charge)
    → StandsFor c rate burst old charges → AreMadeBy slot charges
    → StandsFor c rate burst new (and_grant charges slot bytes)

-- The charges of a bucket decide what it keeps: at most what the burst allows, and where there is a ceiling the least
-- minislot by which they are made, which is where the last of them is
pub record IsSettled (b : BucketView) (charges : List Charge) : Type 0 where
  pub level : b.level ≤ b.full
  pub started : 0 < b.per_slot → AreMadeBy b.since charges
  pub last : 0 < b.per_slot → b.since ≡ start_of charges (length charges - 1)
  pub first : b.per_slot ≡ 0 → b.since ≡ 0

-- where the one bucket is settled by some charges that are made, the other is by them with that of this grant
abbrev pub StaysSettled : BucketView → BucketView → ℕ → ℕ → Type 0
StaysSettled old new slot bytes = (charges : List Charge) → IsSettled old charges → AreMadeBy slot charges
    → IsSettled new (and_grant charges slot bytes)

-- the most bytes, up to a limit, that the bucket has at a minislot: all where it holds nothing back
abbrev pub most_of : BucketView → ℕ → ℕ → ℕ
most_of b slot limit = if b.per_slot == 0 then limit else min limit (level_of b slot / 1280000)

-- whether a bucket reserves so many bytes at a minislot: one of a rate of 0 reserves nothing
abbrev pub reserves : BucketView → ℕ → ℕ → Bool
reserves b slot bytes = not (b.per_slot == 0) && (most_of b slot bytes == bytes)
