-- What the windows of a flow's charges leave, and what they leave after one grant more.
use Rattle.std.proofs.Common.{◌≡◌, sym, ap, ◌∙◌, ℕ, ◌+◌, ◌-◌, ◌*◌, ◌<◌, ◌≤◌, min, List, [], ◌∷◌, ◌++◌, length}
use Rattle.std.proofs.Common.{drop, inl, inr, arith}
use Rattle.std.proofs.Math.Nat.{add-mul, mul_assoc}
use Rattle.std.proofs.lemmas.Bool.{cases_eq}
use Rattle.std.proofs.lemmas.List.{drop-append-le, length_push}
use Rattle.std.proofs.lemmas.List.Sums.{sum_by-append}
use Rattle.minislots.specs.declared.config.Config.{Config}
use Rattle.flow_book.specs.Flows.{Charge, tokens_of, AreMadeBy}
use Rattle.flow_book.specs.Ceiling.{start_of, KeepsCeiling}
use Rattle.flow_book.specs.Bucket.{LeaveAtLeast, IsLevel}
use Rattle.flow_book.proofs.Windows.{one_charge, tokens-one, start-inside, start-last, drop-end, keeps-more, more-leaves}
use Rattle.flow_book.proofs.Windows.{more-small}

-- the tokens from a charge on, with one more
tokens-more : (charges : List Charge) (start n i : ℕ) → i ≤ length charges
    → tokens_of (drop i (charges ++ one_charge start n)) ≡ tokens_of (drop i charges) + n
tokens-more charges start n i le =
    ap tokens_of (drop-append-le i charges (one_charge start n) le)
    ∙ sum_by-append (λ (g : Charge). g.tokens) (drop i charges) (one_charge start n)
    ∙ ap (λ b. tokens_of (drop i charges) + b) (tokens-one start n)

-- what the rate allows up to a later minislot
pub sent-later : (slot later ticks rate per_slot : ℕ) → slot ≤ later → per_slot ≡ ticks * rate
    → later * ticks * rate ≡ slot * ticks * rate + (later - slot) * per_slot
sent-later slot later ticks rate per_slot le is =
    let split : later ≡ slot + (later - slot) = omega arith in
    mul_assoc later ticks rate ∙ ap (λ n. n * (ticks * rate)) split ∙ add-mul slot (later - slot) (ticks * rate)
    ∙ ap (λ n. n + (later - slot) * (ticks * rate)) (sym (mul_assoc slot ticks rate))
    ∙ ap (λ n. slot * ticks * rate + (later - slot) * n) (sym is)

-- charges that have all started, with one more, have started by its start at least
pub started-front : (slot : ℕ) (charges : List Charge) (g : Charge) → AreMadeBy slot (charges ++ g ∷ [])
    → AreMadeBy slot charges × (g.start ≤ slot)
started-front slot [] g all = (tt, all.0)
started-front slot (h ∷ charges) g all =
    let rest = started-front slot charges g all.1 in ((all.0, rest.0), rest.1)

module _ (c : Config) (rate burst : ℕ) (charges : List Charge) (slot n level : ℕ)
    (is : IsLevel c rate burst charges slot level) where
  -- a charge keeps the ceiling where the level has its tokens
  pub level-keeps : KeepsCeiling c rate burst charges → n ≤ level
      → KeepsCeiling c rate burst (charges ++ one_charge slot n)
  level-keeps kept enough =
      keeps-more c rate burst slot n charges kept (λ positive. omega (arith, is.left.empty))
      (λ positive i lt. omega (arith, is.left.each i lt))

  -- and only there
  pub keeps-level : 0 < rate → KeepsCeiling c rate burst (charges ++ one_charge slot n) → n ≤ level
  keeps-level positive kept = is.greatest (n) (record {
    empty = omega (arith, more-small c rate burst slot n charges kept positive);
    each = λ i lt. omega (arith, more-leaves c rate burst slot n charges kept positive i lt);
  })

  module _ (later per_slot : ℕ) (past : slot ≤ later) (brings : per_slot ≡ c.ticks * rate)
      (enough : n ≤ level) where
    -- what is left at a later minislot, before the bucket is full
    abbrev risen : ℕ
    risen = level - n + (later - slot) * per_slot

    window-left : (i amount : ℕ) → i < length (charges ++ one_charge slot n) → amount ≤ risen
        → tokens_of (drop i (charges ++ one_charge slot n)) + amount
        + start_of (charges ++ one_charge slot n) i * c.ticks * rate ≤ later * c.ticks * rate + 1280000 * burst
    window-left i amount lt few = elim (cases_eq i (length charges)) [
      | inl e ↦ rw (
        e,
        tokens-more charges slot n (length charges) (omega arith),
        drop-end charges,
        start-last charges slot n,
        sent-later slot later c.ticks rate per_slot past brings,
      ) (omega (arith, is.left.empty))
      | inr differ ↦
          (let within : i < length charges = omega (arith, length_push charges (record { start = slot; tokens = n })) in
          rw (
            tokens-more charges slot n i (omega arith),
            start-inside charges (one_charge slot n) i within,
            sent-later slot later c.ticks rate per_slot past brings,
          ) (omega (arith, is.left.each i within)))
    ]

    -- what windows with the charge leave, those without it left before
    before : (more : ℕ) → LeaveAtLeast c rate burst (charges ++ one_charge slot n) later more → more ≤ risen
    before more leave =
        let brought : ℕ = (later - slot) * per_slot in
        let apart = sent-later slot later c.ticks rate per_slot past brings in
        let last : length charges < length (charges ++ one_charge slot n) =
        omega (arith, length_push charges (record { start = slot; tokens = n })) in
        let end = leave.each (length charges) last in
        let alone =
        rw (tokens-more charges slot n (length charges) (omega arith), drop-end charges, start-last charges slot n, apart) at
        end in
        let fits : n + more - brought ≤ level = is.greatest (n + more - brought) (record {
          empty = omega arith;
          each = λ i lt.
              let whole = leave.each i (omega arith) in
              let all =
              rw (tokens-more charges slot n i (omega arith), start-inside charges (one_charge slot n) i lt, apart) at
              whole in
              omega (arith, is.left.each i lt);
        }) in
        omega arith

    -- after the charge the level is what it was without its tokens, and what the rate brought since
    pub level-more : IsLevel c rate burst (charges ++ one_charge slot n) later (min (1280000 * burst) risen)
    level-more = record {
      left = record { empty = omega arith; each = λ i lt. window-left i _ lt (omega arith) };
      greatest = λ more leave. omega (arith, leave.empty, before more leave);
    }
