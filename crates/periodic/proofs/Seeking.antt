-- The search for the next free start goes on behind what stands in its way.
use Rattle.std.proofs.Common.{◌≡◌, sym, ap, ◌∙◌, ℕ, ◌+◌, ◌<◌, ◌≤◌, List, length, get_or, inl, inr, arith}
use Rattle.std.proofs.lemmas.Bool.{cases_lt, cases_eq}
use Rattle.std.proofs.lemmas.List.{get_or_default}
use Rattle.std.proofs.Math.Nat.{mod-eq_of_lt}
use Rattle.minislots.specs.declared.config.Config.{Config}
use Rattle.periodic.specs.declared.bits.Bits.{Bits}
use Rattle.periodic.specs.Bits.{bit_of}
use Rattle.periodic.specs.Rows.{no_bits, row_at}
use Rattle.periodic.specs.Search.{IsFreeStart}

-- what the row of a frame of the cycle is
pub row-here : (c : Config) (rows : List Bits) (place : ℕ) (d : Bits) → length rows ≡ c.cycle → place < c.cycle
    → row_at c rows place ≡ (get_or rows place d).words
row-here c rows place d long lt =
    ap (λ k. (get_or rows k no_bits).words) (mod-eq_of_lt lt)
    ∙ ap (λ (b : Bits). b.words) (get_or_default rows place no_bits d (omega arith))

module _ (words : List ℕ) (frame slots from start end next : ℕ) (some : 0 < slots) (reached : end < start + slots)
    (taken : bit_of words end ≡ 1) where
  -- a free minislot from the taken one on lies behind it
  pub behind : end ≤ next → next ≤ 1024 → end < 1024 → (next < 1024 → bit_of words next ≡ 0) → end < next
  behind le most within free = elim (cases_eq next end) [
    | inl same ↦ absurd (omega (arith, taken, sym (ap (bit_of words) same) ∙ free (omega arith)))
    | inr differ ↦ omega (arith, differ)
  ]

  -- no start before the next free minislot is free
  pub none-before : ((before : ℕ) → before < start → IsFreeStart words frame slots from before → ⊥)
      → ((m : ℕ) → end ≤ m → m < next → bit_of words m ≡ 1)
      → (before : ℕ) → before < next → IsFreeStart words frame slots from before → ⊥
  none-before blocked run before lt is = elim (cases_lt before start) [
    | inl early ↦ blocked before early is
    | inr later ↦ elim (cases_lt end before) [
      | inl past ↦ omega (arith, run before (omega arith) lt, is.clear before (omega arith) (omega arith))
      | inr upto ↦ omega (arith, taken, is.clear end upto (omega arith))
    ]
  ]
