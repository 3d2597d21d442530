-- Bits of words, and words of a row.
use Rattle.std.proofs.Common.{◌≡◌, ◌≢◌, refl, sym, ap, ◌∙◌, subst, ℕ, ◌+◌, ◌-◌, ◌*◌, ◌/◌, ◌%◌, ◌^◌, ◌<◌, ◌≤◌, ◌⊎◌, min}
use Rattle.std.proofs.Common.{Option, Some, None, IfSome, IfNone}
use Rattle.std.proofs.Common.{List, [], ◌∷◌, zero, suc, length, get_or, set, replicate, inl, inr, arith}
use Rattle.std.specs.Int.{bit_at, w64}
use Rattle.std.specs.Int.RustNames.{bit_and}
use Rattle.std.proofs.lemmas.Bool.{cases_eq, cases_lt}
use Rattle.std.proofs.lemmas.Grind.{get_or-set_at}
use Rattle.std.proofs.lemmas.List.{get_or-set_other, get_or-replicate}
use Rattle.std.proofs.lemmas.Nat.Bits.{bit_at-zero, ones_shl, bit_at_mask_inside, bit_at_mask_below}
use Rattle.std.proofs.lemmas.Nat.Bits.{bit_at_and, bit_at_not}
use Rattle.periodic.specs.Bits.{bit_of, IsWritten, IsFirstBit}

-- the ones from bit k on
pub ones-on : (k i : ℕ) → k < 64 → k ≤ i → i < 64
    → bit_at (18446744073709551615 * 2 ^ k % 18446744073709551616) i ≡ 1
ones-on k i lt from within =
    ap (λ n. bit_at n i) (ones_shl 64 k (omega arith)) ∙ bit_at_mask_inside k 64 i from within

-- there are none below it
pub ones-below : (k i : ℕ) → k < 64 → i < k → bit_at (18446744073709551615 * 2 ^ k % 18446744073709551616) i ≡ 0
ones-below k i lt below = ap (λ n. bit_at n i) (ones_shl 64 k (omega arith)) ∙ bit_at_mask_below k 64 i below

-- a bit of one word that is not in another
pub bit_at-without : (a b i : ℕ) → b < 18446744073709551616 → i < 64
    → bit_at (bit_and a (18446744073709551615 - b)) i ≡ min (bit_at a i) (1 - bit_at b i)
bit_at-without a b i fits lt = bit_at_and a _ i ∙ ap (min (bit_at a i)) (bit_at_not w64 b i fits lt)

-- the bits of a word that is written
pub bit_of-set_same : (words : List ℕ) (place word m : ℕ) → place < length words → m / 64 ≡ place
    → bit_of (set words place word) m ≡ bit_at word (m % 64)
unfolding bit_of
bit_of-set_same words place word m lt is =
    ap (λ w. bit_at w (m % 64)) (get_or-set_at words place (m / 64) word 0 is lt)

-- those of the others
pub bit_of-set_other : (words : List ℕ) (place word m : ℕ) → m / 64 ≢ place
    → bit_of (set words place word) m ≡ bit_of words m
unfolding bit_of
bit_of-set_other words place word m differ =
    ap (λ w. bit_at w (m % 64)) (get_or-set_other words place (m / 64) word 0 differ)

-- the bit of a minislot in the word that has it
pub bit_of-in : (words : List ℕ) (place m : ℕ) → m / 64 ≡ place
    → bit_of words m ≡ bit_at (get_or words place 0) (m % 64)
unfolding bit_of
bit_of-in words place m is = ap (λ p. bit_at (get_or words p 0) (m % 64)) is

beyond : (words : List ℕ) (i : ℕ) → length words ≤ i → get_or words i 0 ≡ 0
beyond [] i le = refl
beyond (word ∷ words) zero le = absurd (omega arith)
beyond (word ∷ words) (suc i) le = beyond words i (omega arith)

-- words of zeros have no bit set
pub bit_of-zeros : (m : ℕ) → bit_of (replicate 16 0) m ≡ 0
unfolding bit_of
bit_of-zeros m = ap (λ w. bit_at w (m % 64)) (zero-at (m / 64)) ∙ bit_at-zero (m % 64)
  where
    zero-at : (i : ℕ) → ◌≡◌ {A = ℕ} (get_or (replicate 16 0) i 0) 0
    zero-at i = elim (cases_lt i 16) [
      | inl below ↦ get_or-replicate 16 i 0 0 below
      | inr above ↦ beyond (replicate 16 0) i (omega arith)
    ]

-- nothing is written before the first word
pub written-none : (words : List ℕ) (start end bit : ℕ) → IsWritten words words start end bit 0
written-none words start end bit = record {
  inside = λ m lt from to. absurd (omega arith);
  outside = λ m out. refl;
  rest = λ m le. refl;
}

-- one word more is written
pub written-more : (old new : List ℕ) (start end bit place word : ℕ) → place < length new
    → IsWritten old new start end bit place
    → ((i : ℕ) → i < 64 → start ≤ place * 64 + i → place * 64 + i < end → bit_at word i ≡ bit)
    → ((i : ℕ) → i < 64 → (place * 64 + i < start) ⊎ (end ≤ place * 64 + i)
    → bit_at word i ≡ bit_at (get_or new place 0) i)
    → IsWritten old (set new place word) start end bit (place + 1)
written-more old new start end bit place word long is inner outer = record {
  inside = λ m lt from to. elim (cases_eq (m / 64) place) [
    | inl here ↦ bit_of-set_same new place word m long here ∙ inner (m % 64) (omega arith) (omega arith) (omega arith)
    | inr other ↦ bit_of-set_other new place word m other ∙ is.inside m (omega (arith, other)) from to
  ];
  outside = λ m apart. elim (cases_eq (m / 64) place) [
    | inl here ↦ bit_of-set_same new place word m long here
        ∙ outer (m % 64) (omega arith) (subst (λ n. (n < start) ⊎ (end ≤ n)) (omega arith) apart)
        ∙ sym (bit_of-in new place m here) ∙ is.outside m apart
    | inr other ↦ bit_of-set_other new place word m other ∙ is.outside m apart
  ];
  rest = λ m le. bit_of-set_other new place word m (λ same. absurd (omega arith)) ∙ is.rest m (omega arith);
}

-- the minislots before the first with a bit have the other one
pub before-first : (bit word place from first m : ℕ) → IsFirstBit bit word place from first → from ≤ m → place * 64 ≤ m
    → m < first → bit_at word (m % 64) ≡ 1 - bit
before-first bit word place from first m is after here before =
    is.before (m % 64) (omega arith) (omega (arith, is.most)) (omega (arith, is.most))

-- the first has it
pub at-first : (bit word place from first : ℕ) → IsFirstBit bit word place from first → bit_at word (first % 64) ≡ bit
at-first bit word place from first is =
    let at : first % 64 ≡ first - place * 64 = omega (arith, is.least, is.most) in ap (bit_at word) at ∙ is.is

-- the first bit of the complement is the other one
pub first-not : (word place from m : ℕ) → word < 18446744073709551616
    → IsFirstBit 1 (18446744073709551615 - word) place from m → IsFirstBit 0 word place from m
first-not word place from m fits is = record {
  after = is.after;
  least = is.least;
  most = is.most;
  is = omega (arith, is.is, bit_at_not w64 word (m - place * 64) fits (omega (arith, is.least, is.most)));
  before = λ i lt after early. omega (arith, is.before i lt after early, bit_at_not w64 word i fits lt);
}

-- what follows of the number that is there
pub some-weaker : (P Q : ℕ → Type 0) (o : Option ℕ) → ((m : ℕ) → P m → Q m) → IfSome o P → IfSome o Q
some-weaker P Q None follows is = tt
some-weaker P Q (Some m) follows is = follows m is

-- what follows where none is there
pub none-weaker : (A B : Type 0) (o : Option ℕ) → (A → B) → IfNone o A → IfNone o B
none-weaker A B None follows is = follows is
none-weaker A B (Some m) follows is = tt
