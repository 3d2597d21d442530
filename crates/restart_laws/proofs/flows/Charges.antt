-- Charges made by a minislot that keep a rate: what they leave from then on, and with one more.
use Rattle.std.proofs.Common.{◌≡◌, refl, sym, ap, ◌∙◌, ℕ, zero, suc, ◌+◌, ◌-◌, ◌*◌, ◌<◌, ◌≤◌, ◌==◌, min, List, [], ◌∷◌}
use Rattle.std.proofs.Common.{◌++◌, length, take, drop, true, false, ◌&&◌, nat_le, nat_lt, Some}
use Rattle.std.proofs.Common.{unwrap_or, inl, inr, arith}
use Rattle.std.proofs.lemmas.Nat.{mul-le}
use Rattle.std.proofs.lemmas.Bool.{cases_eq}
use Rattle.std.proofs.lemmas.Bool.Decides.{nat_tests}
use Rattle.std.proofs.lemmas.List.{take_all}
use Rattle.std.proofs.lemmas.List.Elements.{All-from_recursion}
use Rattle.minislots.specs.declared.config.Config.{Config}
use Rattle.flow_book.specs.Bucket.{LeaveAtLeast, IsLevel}
use Rattle.flow_book.specs.Ceiling.{start_of, KeepsCeiling}
use Rattle.flow_book.specs.Flows.{Charge, tokens_of, and_grant, charge_of, AreMadeBy}
use Rattle.flow_book.specs.FlowState.{left_at, level_after}
use Rattle.flow_book.specs.Reserved.{is_within}
use Rattle.flow_book.proofs.Levels.{sent-later, level-keeps, keeps-level, level-more}
use Rattle.flow_book.proofs.Order.{all-implied}
use Rattle.flow_book.proofs.States.{level-least}
use Rattle.flow_book.proofs.Windows.{one_charge}

module _ (c : Config) (rate burst : ℕ) where
  -- charges that keep a rate leave something at a minislot by which they are made
  leaves : (slot : ℕ) (charges : List Charge) → 0 < rate → AreMadeBy slot charges → KeepsCeiling c rate burst charges
      → LeaveAtLeast c rate burst charges slot 0
  leaves slot charges positive made kept = record {
    empty = omega arith;
    each = λ i lt.
        let last = length charges - 1 in
        let all : take (last + 1) charges ≡ charges = take_all _ _ (omega arith) in
        let by : start_of charges last ≤ slot =
        All-from_recursion (λ (g : Charge). g.start ≤ slot) charges made last _ (omega arith) in
        let brought = mul-le (start_of charges last * c.ticks) rate (slot * c.ticks) rate
        (mul-le (start_of charges last) c.ticks slot c.ticks by (omega arith)) (omega arith) in
        let whole = kept positive i last (omega arith) (omega arith) in
        let here = rw all at whole in
        omega arith;
  }

  -- so do those behind the first
  leaves-behind : (slot amount : ℕ) (g : Charge) (charges : List Charge)
      → LeaveAtLeast c rate burst (g ∷ charges) slot amount → LeaveAtLeast c rate burst charges slot amount
  leaves-behind slot amount g charges leave =
      record { empty = leave.empty; each = λ i lt. leave.each (suc i) (omega arith) }

  -- what is left of them is their level
  left-level : (slot : ℕ) (charges : List Charge) → LeaveAtLeast c rate burst charges slot 0
      → IsLevel c rate burst charges slot (left_at c rate burst slot charges)
  left-level slot [] leave = record {
    left = record { empty = omega arith; each = λ i lt. absurd (omega arith) };
    greatest = λ more few. few.empty;
  }
  left-level slot (g ∷ charges) leave =
      let rest = left-level slot charges (leaves-behind slot 0 g charges leave) in
      record {
        left = record { empty = omega (arith, rest.left.empty); each = each-of rest };
        greatest = λ more few.
            let here = few.each 0 (omega arith) in
            let behind = rest.greatest more (leaves-behind slot more g charges few) in
            omega arith;
      }
    where
      each-of : IsLevel c rate burst charges slot (left_at c rate burst slot charges) → (i : ℕ)
          → i < length (g ∷ charges) → tokens_of (drop i (g ∷ charges)) + left_at c rate burst slot (g ∷ charges)
          + start_of (g ∷ charges) i * c.ticks * rate ≤ slot * c.ticks * rate + 1280000 * burst
      each-of rest zero lt = let here = leave.each 0 lt in omega arith
      each-of rest (suc i) lt = let here = rest.left.each i (omega arith) in omega arith

  -- which is no more than the burst
  pub left-small : (slot : ℕ) (charges : List Charge) → 0 < rate → AreMadeBy slot charges
      → KeepsCeiling c rate burst charges → left_at c rate burst slot charges ≤ 1280000 * burst
  left-small slot charges positive made kept =
      (left-level slot charges (leaves slot charges positive made kept)).left.empty

  -- at a later minislot the rate has brought more, up to the burst
  left-later : (slot later : ℕ) (charges : List Charge) → slot ≤ later → LeaveAtLeast c rate burst charges slot 0
      → left_at c rate burst later charges
      ≡ min (1280000 * burst) (left_at c rate burst slot charges + (later - slot) * (c.ticks * rate))
  left-later slot later [] le leave = omega arith
  left-later slot later (g ∷ charges) le leave =
      let rest = left-later slot later charges le (leaves-behind slot 0 g charges leave) in
      let here = leave.each 0 (omega arith) in
      rw (rest, sent-later slot later c.ticks rate (c.ticks * rate) le refl) (omega arith)

  -- one charge more keeps a rate behind them where its tokens are left
  within-left : (g : Charge) (charges : List Charge) → LeaveAtLeast c rate burst charges g.start 0
      → is_within c rate burst g charges ≡ nat_le g.tokens (left_at c rate burst g.start charges)
  within-left g [] leave = refl
  within-left g (h ∷ charges) leave =
      let here = leave.each 0 (omega arith) in
      rw (within-left g charges (leaves-behind g.start 0 h charges leave))
      (both-least (tokens_of (h ∷ charges)) g.tokens (h.start * c.ticks * rate)
      (g.start * c.ticks * rate + 1280000 * burst) (left_at c rate burst g.start charges) (omega arith))
    where
      both-least : (taken n from to rest : ℕ) → taken + from ≤ to
          → (nat_le (taken + n + from) to && nat_le n rest) ≡ nat_le n (min (to - (taken + from)) rest)
      both-least taken n from to rest le = grind (arith, nat_tests)

-- Two lists of charges made by a minislot keep a rate, and leave the same there
pub record AreOfOneLevel (c : Config) (rate burst slot : ℕ) (xs ys : List Charge) : Type 0 where
  pub made_one : AreMadeBy slot xs
  pub made_other : AreMadeBy slot ys
  pub kept_one : KeepsCeiling c rate burst xs
  pub kept_other : KeepsCeiling c rate burst ys
  pub same : level_after c rate burst slot xs ≡ level_after c rate burst slot ys

-- levels are the same where as much is left under a rate above 0
level-by : (c : Config) (rate burst slot : ℕ) (xs ys : List Charge)
    → (0 < rate → left_at c rate burst slot xs ≡ left_at c rate burst slot ys)
    → level_after c rate burst slot xs ≡ level_after c rate burst slot ys
level-by c rate burst slot xs ys same = elim (cases_eq rate 0) [
  | inl none ↦ (let free : (rate == 0) ≡ true = grind (arith, nat_tests) in rw free refl)
  | inr some ↦ (let limited : (rate == 0) ≡ false = grind (arith, nat_tests) in
      rw limited (ap Some (same (omega arith))))
]

-- charges made by a minislot are made by a later one
pub made-later : (slot later : ℕ) (charges : List Charge) → slot ≤ later → AreMadeBy slot charges
    → AreMadeBy later charges
made-later slot later charges le all =
    all-implied (λ (g : Charge). g.start ≤ slot) (λ g. g.start ≤ later) charges (λ g here. omega arith) all

module _ (c : Config) (rate burst slot later : ℕ) (le : slot ≤ later) where
  leaves-later : (charges : List Charge) → 0 < rate → AreMadeBy slot charges → KeepsCeiling c rate burst charges
      → LeaveAtLeast c rate burst charges later 0
  leaves-later charges positive made kept =
      leaves c rate burst later charges positive (made-later slot later charges le made) kept

  level-later : (charges : List Charge) → 0 < rate → AreMadeBy slot charges → KeepsCeiling c rate burst charges
      → IsLevel c rate burst charges later (left_at c rate burst later charges)
  level-later charges positive made kept =
      left-level c rate burst later charges (leaves-later charges positive made kept)

  -- one charge more keeps the rate where its tokens are left
  enough-of : (charges : List Charge) (n : ℕ) → 0 < rate → AreMadeBy slot charges → KeepsCeiling c rate burst charges
      → KeepsCeiling c rate burst (charges ++ one_charge later n) → n ≤ left_at c rate burst later charges
  enough-of charges n positive made kept more =
      keeps-level c rate burst charges later n (left_at c rate burst later charges)
      (level-later charges positive made kept) positive more

  -- and leaves the others
  left-more : (charges : List Charge) (n : ℕ) → 0 < rate → AreMadeBy slot charges → KeepsCeiling c rate burst charges
      → n ≤ left_at c rate burst later charges → left_at c rate burst later (charges ++ one_charge later n)
      ≡ min (1280000 * burst) (left_at c rate burst later charges - n + (later - later) * (c.ticks * rate))
  left-more charges n positive made kept enough =
      let level = left_at c rate burst later charges in
      sym (level-least c rate burst later (charges ++ one_charge later n)
      (min (1280000 * burst) (level - n + (later - later) * (c.ticks * rate)))
      (level-more c rate burst charges later n level (level-later charges positive made kept) later (c.ticks * rate)
      (omega arith) refl enough))

  module _ (xs ys : List Charge) (are : AreOfOneLevel c rate burst slot xs ys) where
    -- what two such lists leave is the same from then on
    left-alike : 0 < rate → left_at c rate burst later xs ≡ left_at c rate burst later ys
    left-alike positive =
        let limited : (rate == 0) ≡ false = grind (arith, nat_tests) in
        let levels = rw limited at are.same in
        let now : left_at c rate burst slot xs ≡ left_at c rate burst slot ys = ap (λ o. unwrap_or o 0) levels in
        left-later c rate burst slot later xs le (leaves c rate burst slot xs positive are.made_one are.kept_one)
        ∙ ap (λ n. min (1280000 * burst) (n + (later - slot) * (c.ticks * rate))) now
        ∙ sym (left-later c rate burst slot later ys le
        (leaves c rate burst slot ys positive are.made_other are.kept_other))

    -- their levels are
    pub still-alike : level_after c rate burst later xs ≡ level_after c rate burst later ys
    still-alike = level-by c rate burst later xs ys left-alike

    -- they keep the same grants
    pub keeps-alike : (bytes : ℕ) → KeepsCeiling c rate burst (and_grant xs later bytes)
        → KeepsCeiling c rate burst (and_grant ys later bytes)
    keeps-alike bytes more positive =
        let n = 1280000 * bytes in
        let enough = enough-of xs n positive are.made_one are.kept_one more in
        let left = left-alike positive in
        level-keeps c rate burst ys later n (left_at c rate burst later ys)
        (level-later ys positive are.made_other are.kept_other) are.kept_other (omega arith) positive

    -- behind which their levels are the same
    pub level-alike : (bytes : ℕ) → KeepsCeiling c rate burst (and_grant xs later bytes)
        → level_after c rate burst later (and_grant xs later bytes)
        ≡ level_after c rate burst later (and_grant ys later bytes)
    level-alike bytes more =
        level-by c rate burst later (and_grant xs later bytes) (and_grant ys later bytes) (λ positive.
        let n = 1280000 * bytes in
        let enough = enough-of xs n positive are.made_one are.kept_one more in
        let left = left-alike positive in
        left-more xs n positive are.made_one are.kept_one enough
        ∙ ap (λ l. min (1280000 * burst) (l - n + (later - later) * (c.ticks * rate))) left
        ∙ sym (left-more ys n positive are.made_other are.kept_other (omega arith)))

    -- and they have the same charges within the rate
    pub within-alike : (bytes : ℕ)
        → (nat_lt 0 rate && is_within c rate burst (charge_of (record { start = later; bytes = bytes })) xs)
        ≡ (nat_lt 0 rate && is_within c rate burst (charge_of (record { start = later; bytes = bytes })) ys)
    within-alike bytes = elim (cases_eq rate 0) [
      | inl none ↦ (let free : nat_lt 0 rate ≡ false = grind (arith, nat_tests) in rw free refl)
      | inr some ↦ (
          let g = charge_of (record { start = later; bytes = bytes }) in
          let positive : 0 < rate = omega arith in
          let mine = leaves-later xs positive are.made_one are.kept_one in
          let yours = leaves-later ys positive are.made_other are.kept_other in
          ap (λ b. nat_lt 0 rate && b) (within-left c rate burst g xs mine
          ∙ ap (nat_le (1280000 * bytes)) (left-alike positive)
          ∙ sym (within-left c rate burst g ys yours)))
    ]
