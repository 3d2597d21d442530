-- The windows of a flow's charges followed by one more.
use Rattle.std.proofs.Common.{◌≡◌, refl, ap, ◌∙◌, ℕ, ◌+◌, ◌-◌, ◌*◌, ◌<◌, ◌≤◌, List, [], ◌∷◌, ◌++◌, length}
use Rattle.std.proofs.Common.{take, drop, inl, inr, arith}
use Rattle.std.proofs.Math.Seq.{get_or-append_seam}
use Rattle.std.proofs.lemmas.Bool.{cases_eq}
use Rattle.std.proofs.lemmas.List.{get_or_append_left, take-append-le, drop-append-le, take_all, length_push}
use Rattle.std.proofs.lemmas.List.Sums.{sum_by-append}
use Rattle.minislots.specs.declared.config.Config.{Config}
use Rattle.flow_book.specs.Flows.{Charge, tokens_of}
use Rattle.flow_book.specs.Ceiling.{window, start_of, KeepsCeiling}

-- the window from the k-th charge on leaves so many tokens to a charge that is made here
abbrev pub Leaves : Config → ℕ → ℕ → List Charge → ℕ → ℕ → ℕ → Type 0
Leaves c rate burst charges start n k =
    tokens_of (drop k charges) + n + start_of charges k * c.ticks * rate
    ≤ start * c.ticks * rate + 1280000 * burst

-- one charge more
abbrev pub one_charge : ℕ → ℕ → List Charge
one_charge start n = record { start = start; tokens = n } ∷ []

-- the tokens of one charge
pub tokens-one : (start n : ℕ) → tokens_of (one_charge start n) ≡ n
tokens-one start n = omega arith

window-inside : (charges more : List Charge) (i j : ℕ) → j < length charges → window (charges ++ more) i j
    ≡ window charges i j
window-inside charges more i j lt = ap (drop i) (take-append-le (j + 1) charges more (omega arith))

window-last : (charges : List Charge) (start n i : ℕ) → i ≤ length charges
    → tokens_of (window (charges ++ one_charge start n) i (length charges)) ≡ tokens_of (drop i charges) + n
window-last charges start n i le =
    let all : take (length charges + 1) (charges ++ one_charge start n) ≡ charges ++ one_charge start n =
    take_all _ _ (omega (arith, length_push charges (record { start = start; tokens = n }))) in
    ap (λ gs. tokens_of (drop i gs)) all ∙ ap tokens_of (drop-append-le i charges (one_charge start n) le)
    ∙ sum_by-append (λ (g : Charge). g.tokens) (drop i charges) (one_charge start n)
    ∙ ap (λ b. tokens_of (drop i charges) + b) (tokens-one start n)

-- a charge is made where it was
pub start-inside : (charges more : List Charge) (i : ℕ) → i < length charges
    → start_of (charges ++ more) i ≡ start_of charges i
start-inside charges more i lt = ap (λ (g : Charge). g.start) (get_or_append_left charges more _ i lt)

-- and the one more where it is made
pub start-last : (charges : List Charge) (start n : ℕ) → start_of (charges ++ one_charge start n) (length charges) ≡ start
start-last charges start n =
    ap (λ (g : Charge). g.start) (get_or-append_seam charges (record { start = start; tokens = n }) [] _)

-- which is where the last of them is made
pub start-end : (charges : List Charge) (start n : ℕ)
    → start_of (charges ++ one_charge start n) (length (charges ++ one_charge start n) - 1) ≡ start
start-end charges start n =
    let last : length (charges ++ one_charge start n) - 1 ≡ length charges =
    omega (arith, length_push charges (record { start = start; tokens = n })) in
    rw last (start-last charges start n)

-- after the last charge there are no tokens
pub drop-end : (charges : List Charge) → tokens_of (drop (length charges) charges) ≡ 0
drop-end [] = refl
drop-end (g ∷ charges) = drop-end charges

module _ (c : Config) (rate burst start n : ℕ) (charges : List Charge) where
  last-window : (i : ℕ) → i ≤ length charges → n ≤ 1280000 * burst → (i < length charges → Leaves c rate burst charges start n i)
      → tokens_of (window (charges ++ one_charge start n) i (length charges))
      + start_of (charges ++ one_charge start n) i * c.ticks * rate
      ≤ start_of (charges ++ one_charge start n) (length charges) * c.ticks * rate + 1280000 * burst
  last-window i le small leaves = elim (cases_eq i (length charges)) [
    | inl e ↦ rw (
      e,
      window-last charges start n (length charges) (omega arith),
      start-last charges start n,
      drop-end charges,
    ) (omega arith)
    | inr differ ↦
        (let lt : i < length charges = omega arith in rw (
          window-last charges start n i le,
          start-last charges start n,
          start-inside charges (one_charge start n) i lt,
        ) (leaves lt))
  ]

  -- a charge that each window leaves its tokens to keeps the ceiling
  pub keeps-more : KeepsCeiling c rate burst charges → (0 < rate → n ≤ 1280000 * burst)
      → (0 < rate → (k : ℕ) → k < length charges → Leaves c rate burst charges start n k)
      → KeepsCeiling c rate burst (charges ++ one_charge start n)
  keeps-more kept small leaves positive i j le lt = elim (cases_eq j (length charges)) [
    | inl e ↦ rw e (last-window i (omega arith) (small positive) (leaves positive i))
    | inr differ ↦ (
        let within : j < length charges = omega (arith, length_push charges (record { start = start; tokens = n })) in
        let first : i < length charges = omega arith in
        rw (
          window-inside charges (one_charge start n) i j within,
          start-inside charges (one_charge start n) i first,
          start-inside charges (one_charge start n) j within,
        ) (kept positive i j le within))
  ]

  -- where the ceiling is kept each window left the tokens
  pub more-leaves : KeepsCeiling c rate burst (charges ++ one_charge start n) → 0 < rate → (k : ℕ) → k < length charges
      → Leaves c rate burst charges start n k
  more-leaves kept positive k lt =
      let last : length charges < length (charges ++ one_charge start n) =
      omega (arith, length_push charges (record { start = start; tokens = n })) in
      let whole = kept positive k (length charges) (omega arith) last in
      rw (
        window-last charges start n k (omega arith),
        start-last charges start n,
        start-inside charges
            (one_charge start n) k lt,
      ) at whole

  -- and the charge is no more than the burst
  pub more-small : KeepsCeiling c rate burst (charges ++ one_charge start n) → 0 < rate → n ≤ 1280000 * burst
  more-small kept positive =
      let last : length charges < length (charges ++ one_charge start n) =
      omega (arith, length_push charges (record { start = start; tokens = n })) in
      let whole = kept positive (length charges) (length charges) (omega arith) last in
      let alone =
      rw (window-last charges start n (length charges) (omega arith), start-last charges start n, drop-end charges) at
      whole in
      omega arith
