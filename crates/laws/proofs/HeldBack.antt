-- The acknowledge time of a MAP, and the flows that wait since before it.
use Rattle.std.proofs.Common.{◌≡◌, ℕ, zero, suc, ◌<◌, ◌≤◌, Bool, true, false, not, ◌&&◌, nat_lt, List, [], ◌∷◌}
use Rattle.std.proofs.Common.{map, filter, length, get_or, Contains, refl, sym, ap, ◌∙◌, inl, inr, true≢false, arith}
use Rattle.std.specs.List.{AllByRecursion, count_by}
use Rattle.std.proofs.lemmas.Bool.{cond_both, cases_lt}
use Rattle.std.proofs.lemmas.Bool.Decides.{nat_tests}
use Rattle.flow_book.specs.Flows.{LiveFlow}
use Rattle.flow_book.specs.Shown.{waits, since, comes_before, count_before, is_shown, is_hidden, least_with, ack_of}
use Rattle.flow_book.proofs.Lines.{count-one_more}
use Rattle.map_build.proofs.SameSpots.{all-members}

-- a flow waits since a minislot before this one
abbrev pub late : ℕ → LiveFlow → Bool
late slot f = waits f && nat_lt (since f) slot

both : (a b : Bool) → (a && b) ≡ true → (a ≡ true) × (b ≡ true)
both true b is = (refl, is)
both false b is = absurd (true≢false (sym is))

pub late-parts : (slot : ℕ) (f : LiveFlow) → late slot f ≡ true → (waits f ≡ true) × (since f < slot)
late-parts slot f is =
    let parts = both (waits f) (nat_lt (since f) slot) is in
    (parts.0, (let test = parts.1 in grind (arith, nat_tests)))

pub late-is : (slot : ℕ) (f : LiveFlow) → waits f ≡ true → since f < slot → late slot f ≡ true
late-is slot f waiting lt =
    let test : nat_lt (since f) slot ≡ true = grind (arith, nat_tests) in rw (waiting, test) refl

-- a flow that waits is shown, or hidden
shown-or : (a b : Bool) → a ≡ true → ((a && not b) ≡ true → ⊥) → (a && b) ≡ true
shown-or true true waiting never = refl
shown-or true false waiting never = absurd (never refl)
shown-or false b waiting never = absurd (true≢false (sym waiting))

hidden-parts : (most : ℕ) (b : Bool) (n : ℕ) → (b && not (nat_lt n most)) ≡ true → (b ≡ true) × (most ≤ n)
hidden-parts most true n is = (refl, grind (arith, nat_tests, is))
hidden-parts most false n is = absurd (true≢false (sym is))

module _ (p : LiveFlow → Bool) where
  -- where a number is at most that since which each of them waits, and this, it is at most the least of all
  least-from : (n progress : ℕ) (fs : List LiveFlow) → n ≤ progress
      → AllByRecursion (λ f. p f ≡ true → n ≤ since f) fs → n ≤ least_with progress (map since (filter p fs))
  least-from n progress [] le all = le
  least-from n progress (f ∷ fs) le all =
      cond_both (p f) (f ∷ filter p fs) (filter p fs) (λ gs. n ≤ least_with progress (map since gs))
      (λ yes'. omega (arith, all.0 yes', least-from n progress fs le all.1))
      (λ no'. least-from n progress fs le all.1)

  -- the least is at most that since which one of them waits
  least-at : (progress : ℕ) (g : LiveFlow) (fs : List LiveFlow) (i : ℕ) → i < length fs → get_or fs i g ≡ g
      → p g ≡ true → least_with progress (map since (filter p fs)) ≤ since g
  least-at progress g [] i lt at takes = absurd (omega arith)
  least-at progress g (f ∷ fs) zero lt at takes =
      let here : p f ≡ true = ap p at ∙ takes in rw here (omega (arith, ap since at))
  least-at progress g (f ∷ fs) (suc i) lt at takes =
      cond_both (p f) (f ∷ filter p fs) (filter p fs) (λ gs. least_with progress (map since gs) ≤ since g)
      (λ yes'. omega (arith, least-at progress g fs i (omega arith) at takes))
      (λ no'. least-at progress g fs i (omega arith) at takes)

itself-after : (a : Bool) (f : LiveFlow) → (a && comes_before f f) ≡ false
itself-after true f = grind (arith, nat_tests)
itself-after false f = refl

-- what comes before a flow waits since no later minislot
before-late : (f g : LiveFlow) (slot : ℕ) → since f < slot → (waits g && comes_before g f) ≡ true → late slot g ≡ true
before-late f g slot lt is =
    let parts = both (waits g) (comes_before g f) is in
    let before = parts.1 in
    let le : since g ≤ since f = grind (arith, nat_tests, before) in
    late-is slot g parts.0 (omega arith)

module _ (most progress : ℕ) (flows : List LiveFlow) where
  -- a flow that waits since before the acknowledge time is shown
  pub late-shown : (f : LiveFlow) → Contains flows f → late (ack_of most progress flows) f ≡ true
      → is_shown most flows f ≡ true
  late-shown f has is =
      let parts = late-parts (ack_of most progress flows) f is in
      shown-or (waits f) (nat_lt (count_before flows f) most) parts.0
      (λ hides. omega (
        arith,
        parts.1,
        least-at (is_hidden most flows) progress f flows has.0 has.1 has.2 hides,
      ))

  -- where few wait since before a minislot, no later than the progress, it is no later than the acknowledge time
  pub few-late : (slot : ℕ) → slot ≤ progress → count_by (late slot) flows ≤ most → slot ≤ ack_of most progress flows
  few-late slot le few = least-from (is_hidden most flows) slot progress flows le
      (all-members (λ f. is_hidden most flows f ≡ true → slot ≤ since f) flows (λ f has hides. elim
      (cases_lt (since f) slot) [
        | inl lt ↦
            let parts = hidden-parts most (waits f) (count_before flows f) hides in
            absurd (omega (
              arith,
              few,
              parts.1,
              count-one_more (λ g. waits g && comes_before g f) (late slot) flows has.0 f
                  (λ g is. before-late f g slot lt is) has.1 has.2 (itself-after (waits f) f)
                  (late-is slot f parts.0 lt),
            ))
        | inr not_lt ↦ omega arith
      ]))
