-- What the state of a scheduler tells of a flow is what its bucket and its turn keep.
use Rattle.std.proofs.Common.{◌≡◌, refl, ap, ℕ, zero, suc, ◌+◌, ◌-◌, ◌*◌, ◌/◌, ◌%◌, ◌^◌, ◌<◌, ◌≤◌, ◌==◌, List, [], ◌∷◌}
use Rattle.std.proofs.Common.{length, drop, true, false, Option, None, Some, arith}
use Rattle.std.proofs.lemmas.Bool.Decides.{nat_tests}
use Rattle.minislots.specs.declared.config.Config.{Config}
use Rattle.flow_book.specs.Flows.{Charge, tokens_of, AreMadeBy}
use Rattle.flow_book.specs.Ceiling.{start_of}
use Rattle.flow_book.specs.Entry.{IsTurn}
use Rattle.flow_book.specs.Bucket.{BucketView, level_of, LeaveAtLeast, IsLevel, StandsFor}
use Rattle.flow_book.specs.FlowState.{left_at, level_after}
use Rattle.flow_book.proofs.Buckets.{no-ceiling, some-ceiling}

-- the start in a turn is a minislot
pub start-fits : (rank : ℕ) (last : Option ℕ) (sid turn : ℕ) → IsTurn rank last sid turn
    → turn % 2 ^ 81 / 2 ^ 16 - 1 < 2 ^ 64
start-fits rank None sid turn is = omega (arith, is.0, is.1)
start-fits rank (Some start) sid turn is = omega (arith, is.0, is.1, is.2)

module _ (c : Config) (rate burst slot : ℕ) where
  -- the windows of charges are those of the charges behind the first, and the whole
  leave-behind : (g : Charge) (charges : List Charge) (amount : ℕ) → LeaveAtLeast c rate burst (g ∷ charges) slot amount
      → LeaveAtLeast c rate burst charges slot amount
  leave-behind g charges amount leave =
      record { empty = leave.empty; each = λ i lt. leave.each (suc i) (omega arith) }

  -- what each window leaves is at most the least
  leave-least : (charges : List Charge) (amount : ℕ) → LeaveAtLeast c rate burst charges slot amount
      → amount ≤ left_at c rate burst slot charges
  leave-least [] amount leave = leave.empty
  leave-least (g ∷ charges) amount leave =
      omega (arith, leave.each 0 (omega arith), leave-least charges amount (leave-behind g charges amount leave))

  -- the least is at most the burst
  least-burst : (charges : List Charge) → left_at c rate burst slot charges ≤ 1280000 * burst
  least-burst [] = omega arith
  least-burst (g ∷ charges) = omega (arith, least-burst charges)

  -- where each window leaves something each leaves the least
  least-each : (charges : List Charge) (amount : ℕ) → LeaveAtLeast c rate burst charges slot amount → (i : ℕ)
      → i < length charges → tokens_of (drop i charges) + left_at c rate burst slot charges
      + start_of charges i * c.ticks * rate ≤ slot * c.ticks * rate + 1280000 * burst
  least-each [] amount leave i lt = absurd (omega arith)
  least-each (g ∷ charges) amount leave zero lt = omega (arith, leave.each 0 lt)
  least-each (g ∷ charges) amount leave (suc i) lt =
      omega (arith, least-each charges amount (leave-behind g charges amount leave) i (omega arith))

  -- the most that each window leaves is the least that one of them leaves
  pub level-least : (charges : List Charge) (level : ℕ) → IsLevel c rate burst charges slot level
      → level ≡ left_at c rate burst slot charges
  level-least charges level is =
      let more = is.greatest (left_at c rate burst slot charges)
      (record { empty = least-burst charges; each = least-each charges level is.left }) in
      omega (arith, more, leave-least charges level is.left)

module _ (c : Config) (rate burst slot : ℕ) (b : BucketView) (charges : List Charge)
    (stands : StandsFor c rate burst b charges) where
  -- a bucket without a ceiling has no level
  pub level-none : b.per_slot ≡ 0 → None ≡ level_after c rate burst slot charges
  level-none none =
      let free : (rate == 0) ≡ true = grind (arith, nat_tests, no-ceiling c rate burst b charges stands none) in
      rw free refl

  -- another has that of its charges at each minislot by which they have started
  pub level-kept : 0 < b.per_slot → AreMadeBy slot charges
      → Some (level_of b slot) ≡ level_after c rate burst slot charges
  level-kept some started =
      let limited = some-ceiling c rate burst b charges stands some in
      let fails : (rate == 0) ≡ false = grind (arith, nat_tests, limited) in
      rw fails (ap Some (level-least c rate burst slot charges (level_of b slot) (stands.level limited slot started)))
