-- Numbers that a set is made of stand there in order.
use Rattle.std.proofs.Common.{◌≡◌, refl, sym, ap, ◌∙◌, subst, true≢false, inl, inr, ◌<◌, ◌==◌, Bool, true, false, ◌||◌, cond, nat_lt, ℕ, suc, List, [], ◌∷◌, arith}
use Rattle.std.specs.List.{AllByRecursion, list_any}
use Rattle.std.specs.List.Sorted.{IsStrictlySortedBy}
use Rattle.std.proofs.lemmas.List.Elements.{recursion_from_All}
use Rattle.std.proofs.lemmas.Map.Keys.{below_from_sorted, sorted_tail}
use Rattle.std.proofs.lemmas.Bool.{cases_lt}
use Rattle.std.proofs.lemmas.Bool.Decides.{nat_tests}
use Rattle.std.specs.Ordering.{eq_by_cmp, nat_cmp}
use Rattle.std.specs.BTreeSet.{BTreeSet}
use Rattle.std.specs.BTreeSet as set
use Rattle.std.proofs.Math.Bool.{or-false}
use Rattle.sched_calls.specs.Sids.{AscendBy, put_in}
use Rattle.flow_book.specs.Line.{itself, sorted, sorted_into}
use Rattle.flow_book.proofs.Order.{all-implied}

or-swap : (a b c : Bool) → (a || (b || c)) ≡ (b || (a || c))
or-swap true true c = refl
or-swap true false c = refl
or-swap false b c = refl

any-cond : (b : Bool) (p : ℕ → Bool) (n m : ℕ) (ns ms : List ℕ) → list_any p ms ≡ (p n || list_any p ns)
    → list_any p (cond b (n ∷ m ∷ ns) (m ∷ ms)) ≡ (p n || list_any p (m ∷ ns))
any-cond true p n m ns ms is = refl
any-cond false p n m ns ms is = ap (λ b. p m || b) is ∙ or-swap (p m) (p n) (list_any p ns)

-- one of the numbers with one more passes where that does or one of them does
any-put_in : (p : ℕ → Bool) (n : ℕ) (ns : List ℕ) → list_any p (put_in itself n ns) ≡ (p n || list_any p ns)
any-put_in p n [] = refl
any-put_in p n (m ∷ ns) = any-cond (nat_lt n m) p n m ns (put_in itself n ns) (any-put_in p n ns)

any-sorted : (p : ℕ → Bool) (line ns : List ℕ) → list_any p (sorted_into line ns) ≡ (list_any p ns || list_any p line)
any-sorted p line [] = refl
any-sorted p line (n ∷ ns) =
    any-sorted p (put_in itself n line) ns ∙ ap (λ b. list_any p ns || b) (any-put_in p n line)
    ∙ or-join (list_any p ns) (p n) (list_any p line)
  where
    or-join : (a b c : Bool) → (a || (b || c)) ≡ ((b || a) || c)
    or-join true true c = refl
    or-join true false c = refl
    or-join false true c = refl
    or-join false false c = refl

same-itself : (n : ℕ) → eq_by_cmp nat_cmp n n ≡ true
same-itself n =
    let less : nat_lt n n ≡ false = grind (arith, nat_tests) in
    let equal : (n == n) ≡ true = grind (arith, nat_tests) in
    rw (less, equal) refl

lower-differs : (q n : ℕ) → q < n → eq_by_cmp nat_cmp q n ≡ false
lower-differs q n lt = let less : nat_lt q n ≡ true = grind (arith, nat_tests) in rw less refl

higher-differs : (q n : ℕ) → n < q → eq_by_cmp nat_cmp q n ≡ false
higher-differs q n lt =
    let less : nat_lt q n ≡ false = grind (arith, nat_tests) in
    let equal : (q == n) ≡ false = grind (arith, nat_tests) in
    rw (less, equal) refl

-- a number below all is none of them
none-below : (q : ℕ) (ns : List ℕ) → AllByRecursion (λ n. q < n) ns → list_any (eq_by_cmp nat_cmp q) ns ≡ false
none-below q [] above = refl
none-below q (n ∷ ns) above = rw (lower-differs q n above.0, none-below q ns above.1) refl

above-too : (q n : ℕ) (ns : List ℕ) → q < n → AllByRecursion (λ m. n < m) ns → AllByRecursion (λ m. q < m) (n ∷ ns)
above-too q n ns lt above = (lt, all-implied (λ m. n < m) (λ m. q < m) ns (λ m less. omega (arith, lt, less)) above)

abbrev AreSame : List ℕ → List ℕ → Type 0
AreSame ms ns = (q : ℕ) → list_any (eq_by_cmp nat_cmp q) ms ≡ list_any (eq_by_cmp nat_cmp q) ns

not-missed : (m n : ℕ) (ms ns : List ℕ) → m < n → AllByRecursion (λ k. n < k) ns → AreSame (m ∷ ms) (n ∷ ns) → ⊥
not-missed m n ms ns lt above same =
    let here : list_any (eq_by_cmp nat_cmp m) (m ∷ ms) ≡ true = rw (same-itself m) refl in
    let none : list_any (eq_by_cmp nat_cmp m) (n ∷ ns) ≡ false = none-below m (n ∷ ns) (above-too m n ns lt above) in
    true≢false (sym here ∙ same m ∙ none)

drop-cond : (b c d e : Bool) → (b ≡ true → c ≡ false) → (b ≡ true → d ≡ false) → (b || c) ≡ (b || d) → c ≡ d
drop-cond true c d e left right same = left refl ∙ sym (right refl)
drop-cond false c d e left right same = same

same-number : (q n : ℕ) → eq_by_cmp nat_cmp q n ≡ true → q ≡ n
same-number q n equal = elim (cases_lt q n) [
  | inl lt ↦ absurd (true≢false (sym equal ∙ lower-differs q n lt))
  | inr le ↦ elim (cases_lt n q) [
    | inl lt ↦ absurd (true≢false (sym equal ∙ higher-differs q n lt))
    | inr le' ↦ omega (arith, le, le')
  ]
]

-- two lists of ascending numbers that have the same are the same
same-numbers : (ms ns : List ℕ) → AscendBy itself ms → AscendBy itself ns → AreSame ms ns → ms ≡ ns
same-numbers [] [] up up' same = refl
same-numbers [] (n ∷ ns) up up' same =
    let here : list_any (eq_by_cmp nat_cmp n) (n ∷ ns) ≡ true = rw (same-itself n) refl in
    absurd (true≢false (sym here ∙ sym (same n)))
same-numbers (m ∷ ms) [] up up' same =
    let here : list_any (eq_by_cmp nat_cmp m) (m ∷ ms) ≡ true = rw (same-itself m) refl in
    absurd (true≢false (sym here ∙ same m))
same-numbers (m ∷ ms) (n ∷ ns) up up' same = elim (cases_lt m n) [
  | inl lt ↦ absurd (not-missed m n ms ns lt up'.0 same)
  | inr le ↦ elim (cases_lt n m) [
    | inl lt ↦ absurd (not-missed n m ns ms lt up.0 (λ q. sym (same q)))
    | inr le' ↦ (
        let first : m ≡ n = omega (arith, le, le') in
        let rest : AreSame ms ns = λ q.
        drop-cond (eq_by_cmp nat_cmp q m) (list_any (eq_by_cmp nat_cmp q) ms) (list_any (eq_by_cmp nat_cmp q) ns)
        false
        (λ equal. let is = same-number q m equal in none-below q ms (subst (λ k. AllByRecursion (λ v. k < v) ms) (sym is) up.0))
        (λ equal. let is = same-number q m equal in
        none-below q ns (subst (λ k. AllByRecursion (λ v. k < v) ns) (sym (is ∙ first)) up'.0))
        (same q ∙ ap (λ k. eq_by_cmp nat_cmp q k || list_any (eq_by_cmp nat_cmp q) ns) (sym first)) in
        ap (λ k. k ∷ ms) first ∙ ap (λ ks. n ∷ ks) (same-numbers ms ns up.1 up'.1 rest))
  ]
]

ascends-keys : (ks : List ℕ) → IsStrictlySortedBy nat_cmp ks → AscendBy itself ks
ascends-keys [] up = tt
ascends-keys (k ∷ ks) up = (
  recursion_from_All (λ m. k < m) ks (λ j d lt. below_from_sorted (k ∷ ks) 0 (suc j) d up (omega arith) (omega (arith, lt))),
  ascends-keys ks (sorted_tail nat_cmp k ks up),
)

-- what a set that is made of these has is these in order, where they differ
pub collected : (ns : List ℕ) (s : BTreeSet ℕ) → set.IsFromIterResult nat_cmp ns s → AscendBy itself (sorted ns)
    → s.keys ≡ sorted ns
collected ns s is up =
    same-numbers s.keys (sorted ns) (ascends-keys s.keys is.1) up
    (λ q. is.0 q ∙ sym (any-sorted (eq_by_cmp nat_cmp q) [] ns ∙ or-false (list_any (eq_by_cmp nat_cmp q) ns)))
