-- What is told of the value that so many in a hundred do not exceed.
use Rattle.std.proofs.Common.{◌≡◌, ℕ, zero, suc, ◌+◌, ◌*◌, ◌<◌, ◌≤◌, Bool, true, List, [], ◌∷◌, ◌++◌, length}
use Rattle.std.proofs.Common.{Option, None, Some, refl, sym, subst, inl, inr, nat_le, if◌then◌else◌, arith}
use Rattle.std.specs.Prelude.{max}
use Rattle.std.specs.Option.{option_map_or}
use Rattle.std.proofs.lemmas.Bool.{cases_lt, cases_eq, cases_Bool, le-leb, leb-true, both_ways}
use Rattle.std.proofs.lemmas.List.Sums.{sum_by-append, sum_by-cons}
use Rattle.std.proofs.lemmas.Nat.{mul-le}
use Rattle.sched_report.specs.Delays.{greatest_of}
use Rattle.sched_report.specs.Spread.{count_upto, is_enough, first_from, IsNear}
use Rattle.sched_report.specs.Steps.{CountsUpto, IsBelow}
use Rattle.sched_report.proofs.Reaching.{yes, no}
use Rattle.sched_report.proofs.Steps.{one-yes}

-- what is counted of no numbers
pub CountsUpto-none : (n : ℕ) → CountsUpto n 0 []
CountsUpto-none n = record { within = omega arith; near = λ m near. omega arith; exact = λ m small le. omega arith }

count_upto-append : (n : ℕ) (xs ys : List ℕ) → count_upto n (xs ++ ys) ≡ count_upto n xs + count_upto n ys
count_upto-append n xs ys = sum_by-append (λ m. if nat_le m n then 1 else 0) xs ys

-- what is counted of two lists is the sum of what is counted of each
pub CountsUpto-append : (n a b : ℕ) (xs ys : List ℕ) → CountsUpto n a xs → CountsUpto n b ys
    → CountsUpto n (a + b) (xs ++ ys)
CountsUpto-append n a b xs ys one other = record {
  within = omega (arith, one.within, other.within, count_upto-append n xs ys);
  near = λ m near. omega (arith, one.near m near, other.near m near, count_upto-append m xs ys);
  exact = λ m small le. omega (arith, one.exact m small le, other.exact m small le, count_upto-append m xs ys);
}

-- the first that passes does, where the last does
first_from-passes : (passes : ℕ → Bool) (n more last : ℕ) → n + more ≡ last → passes last ≡ true
    → passes (first_from passes n more) ≡ true
first_from-passes passes n zero last is ends =
    let same : last ≡ n = omega (arith, is) in subst (λ (k : ℕ). passes k ≡ true) same ends
first_from-passes passes n (suc more) last is ends =
    elim (cases_Bool (passes n)) [
      | inl here ↦
          subst (λ (k : ℕ). passes k ≡ true) (sym (yes (passes n) n (first_from passes (n + 1) more) here)) here
      | inr later ↦
          subst (λ (k : ℕ). passes k ≡ true) (sym (no (passes n) n (first_from passes (n + 1) more) later))
          (first_from-passes passes (n + 1) more last (omega (arith, is)) ends)
    ]

-- and none before it
first_from-least : (passes : ℕ → Bool) (n more m : ℕ) → n ≤ m → passes m ≡ true → first_from passes n more ≤ m
first_from-least passes n zero m le is = le
first_from-least passes n (suc more) m le is =
    elim (cases_Bool (passes n)) [
      | inl here ↦ omega (arith, le, yes (passes n) n (first_from passes (n + 1) more) here)
      | inr later ↦
          elim (cases_eq n m) [
            | inl same ↦ absurd (both_ways (passes n) later (subst (λ (k : ℕ). passes k ≡ true) (sym same) is))
            | inr apart ↦
                omega (
                  arith,
                  no (passes n) n (first_from passes (n + 1) more) later,
                  first_from-least passes (n + 1) more m (omega (arith, le, apart)) is,
                )
          ]
    ]

-- all do not exceed the greatest
abbrev IsMost : Option ℕ → ℕ → Type 0
IsMost None g = Unit {0}
IsMost (Some n) g = n ≤ g

most_parts : (n : ℕ) (o : Option ℕ) (g : ℕ) → option_map_or (λ m. max n m) o n ≤ g → (n ≤ g) × IsMost o g
most_parts n None g le = (le, tt)
most_parts n (Some m) g le = (omega (arith, le), omega (arith, le))

all_upto : (ns : List ℕ) (g : ℕ) → IsMost (greatest_of ns) g → count_upto g ns ≡ length ns
all_upto [] g most = refl
all_upto (n ∷ ns) g most =
    let parts = most_parts n (greatest_of ns) g most in
    omega (
      arith,
      sum_by-cons (λ (m : ℕ). if nat_le m g then 1 else 0) n ns,
      one-yes g n parts.0,
      all_upto ns g parts.1,
    )

-- none of some numbers is above the greatest of them
pub all_within_greatest : (ns : List ℕ) (g : ℕ) → greatest_of ns ≡ Some g → count_upto g ns ≡ length ns
all_within_greatest ns g is =
    let self : g ≤ g = omega arith in all_upto ns g (subst (λ (o : Option ℕ). IsMost o g) (sym is) self)

-- so many in a hundred of some numbers are no more than all
pub part_of_all : (percent n : ℕ) → percent ≤ 100 → percent * n ≤ 100 * n
part_of_all percent n few = let self : n ≤ n = omega arith in mul-le percent n 100 n few self

-- the least value of which enough is told is near the value that so many do not exceed
pub IsNear-searched : (percent : ℕ) (ns : List ℕ) (g v : ℕ) → percent ≤ 100 → greatest_of ns ≡ Some g
    → percent * length ns ≤ 100 * count_upto v ns
    → ((m : ℕ) → IsBelow m v → 100 * count_upto m ns < percent * length ns)
    → IsNear (first_from (is_enough percent ns) 0 g) v
IsNear-searched percent ns g v few is enough below =
    let t : ℕ = first_from (is_enough percent ns) 0 g in
    let at_end : is_enough percent ns g ≡ true =
    le-leb (percent * length ns) (100 * count_upto g ns)
    (omega (arith, part_of_all percent (length ns) few, all_within_greatest ns g is)) in
    let passes : is_enough percent ns t ≡ true =
    first_from-passes (is_enough percent ns) 0 g g (omega arith) at_end in
    let reached : percent * length ns ≤ 100 * count_upto t ns =
    leb-true (percent * length ns) (100 * count_upto t ns) passes in
    let never : IsBelow t v → ⊥ = λ before. omega (arith, reached, below t before) in
    let least : t ≤ v =
    first_from-least (is_enough percent ns) 0 g v (omega arith)
    (le-leb (percent * length ns) (100 * count_upto v ns) enough) in
    record {
      least = least;
      most = elim (cases_lt (101 * t) (100 * v)) [
        | inl past ↦ absurd (never (inl past))
        | inr within ↦ omega (arith, within)
      ];
      same = λ small. elim (cases_lt t v) [
        | inl past ↦ absurd (never (inr (past, small)))
        | inr within ↦ omega (arith, least, within)
      ];
    }
