-- Numbers in order are told by how many of them pass each test.
use Rattle.std.proofs.Common.{◌≡◌, refl, sym, ap, ◌∙◌, ℕ, zero, suc, ◌<◌, ◌≤◌, ◌^◌, inl, inr, Bool, true, false, cond}
use Rattle.std.proofs.Common.{◌&&◌, nat_lt, List, [], ◌∷◌, map, filter, take, length, get_or, Some, None, arith}
use Rattle.std.specs.List.{AllByRecursion, count_by}
use Rattle.std.specs.List.Sorted.{IsPermutation, IsNonDecreasing}
use Rattle.std.proofs.lemmas.Bool.{cases_lt}
use Rattle.std.proofs.lemmas.Bool.Decides.{nat_tests}
use Rattle.std.proofs.lemmas.List.{get_or_default}
use Rattle.std.proofs.lemmas.List.Elements.{All-from_recursion, recursion_from_All}
use Rattle.std.proofs.lemmas.List.Sorted.{sum_by-IsPermutation}
use Rattle.flow_book.specs.Flows.{LiveFlow}
use Rattle.flow_book.specs.Book.{Ascend}
use Rattle.sched_calls.specs.Sids.{AscendBy, put_in}
use Rattle.flow_book.specs.Shown.{waits, number_in_line, is_shown}
use Rattle.flow_book.specs.Line.{itself, IsInOrder, sorted_into, sorted, sid_of, numbers_of}
use Rattle.flow_book.proofs.InLine.{all-shown, few-wait, some-hidden, ascends}
use Rattle.flow_book.proofs.Lines.{order-put_in, count-cons, count-kept, count-same, count-sorted_into}
use Rattle.flow_book.proofs.Matching.{all-map, filter-same}
use Rattle.flow_book.proofs.Order.{all-implied}
use Rattle.sched_calls.proofs.Removal.{ascends-filter}

none-lower : (n : ℕ) (xs : List ℕ) → AllByRecursion (λ x. n ≤ x) xs → count_by (λ x. nat_lt x n) xs ≡ 0
none-lower n [] all = refl
none-lower n (x ∷ xs) all =
    let no' : nat_lt x n ≡ false = let above = all.0 in grind (arith, nat_tests) in
    omega (arith, count-cons (λ y. nat_lt y n) x xs, ap (λ b. cond {A = ℕ} b 1 0) no', none-lower n xs all.1)

not-lower : (x y : ℕ) (xs ys : List ℕ) → IsInOrder (y ∷ ys)
    → ((p : ℕ → Bool) → count_by p (x ∷ xs) ≡ count_by p (y ∷ ys)) → x < y → ⊥
not-lower x y xs ys order same lt =
    let yes' : nat_lt x y ≡ true = grind (arith, nat_tests) in
    let no' : nat_lt y y ≡ false = grind (arith, nat_tests) in
    omega (
      arith,
      count-cons (λ m. nat_lt m y) x xs,
      ap (λ b. cond {A = ℕ} b 1 0) yes',
      same (λ m. nat_lt m y),
      count-cons (λ m. nat_lt m y) y ys,
      ap (λ b. cond {A = ℕ} b 1 0) no',
      none-lower y ys order.0,
    )

-- lists in order are the same where of both as many pass each test
pub same-order : (xs ys : List ℕ) → IsInOrder xs → IsInOrder ys → ((p : ℕ → Bool) → count_by p xs ≡ count_by p ys)
    → xs ≡ ys
same-order [] [] order order' same = refl
same-order [] (y ∷ ys) order order' same =
    absurd (omega (arith, same (λ m. true), count-cons (λ (m : ℕ). true) y ys))
same-order (x ∷ xs) [] order order' same =
    absurd (omega (arith, same (λ m. true), count-cons (λ (m : ℕ). true) x xs))
same-order (x ∷ xs) (y ∷ ys) order order' same = elim (cases_lt x y) [
  | inl lt ↦ absurd (not-lower x y xs ys order' same lt)
  | inr ge ↦ elim (cases_lt y x) [
    | inl lt ↦ absurd (not-lower y x ys xs order (λ p. sym (same p)) lt)
    | inr le ↦
        let is : x ≡ y = omega arith in
        ap (λ n. n ∷ xs) is ∙ ap (λ ns. y ∷ ns) (same-order xs ys order.1 order'.1 (λ p.
        omega (
          arith,
          same p,
          count-cons p x xs,
          count-cons p y ys,
          ap (λ n. cond {A = ℕ} (p n) 1 0) is,
        )))
  ]
]

order-sorted_into : (line ns : List ℕ) → IsInOrder line → IsInOrder (sorted_into line ns)
order-sorted_into line [] order = order
order-sorted_into line (n ∷ ns) order = order-sorted_into (put_in itself n line) ns (order-put_in n line order)

count-sorted : (p : ℕ → Bool) (ns : List ℕ) → count_by p (sorted ns) ≡ count_by p ns
count-sorted p ns = omega (arith, count-sorted_into p [] ns)

-- a list in order is another put in order where of both as many pass each test
pub sorted-same : (xs ys : List ℕ) → ((p : ℕ → Bool) → count_by p xs ≡ count_by p ys) → IsInOrder ys → sorted xs ≡ ys
sorted-same xs ys same order =
    same-order (sorted xs) ys (order-sorted_into [] xs tt) order (λ p.
    count-sorted p xs ∙ same p)

in-order : (xs : List ℕ) → IsNonDecreasing xs → IsInOrder xs
in-order [] up = tt
in-order (x ∷ xs) up = (
  recursion_from_All (λ y. x ≤ y) xs (λ i d lt. up 0 (suc i) d (omega arith) (omega arith)),
  in-order xs (λ i j d le lt. up (suc i) (suc j) d (omega arith) (omega arith)),
)

-- so is one that is the other in another order
pub sorted-is : (xs ys : List ℕ) → IsPermutation xs ys → IsNonDecreasing ys → ys ≡ sorted xs
sorted-is xs ys moved up =
    sym (sorted-same xs ys (λ p. sym (sum_by-IsPermutation (λ x. cond {A = ℕ} (p x) 1 0) xs ys moved)) (in-order ys up))

-- the SIDs of flows in order of SID are in order
pub order-sids : (flows : List LiveFlow) → Ascend flows → IsInOrder (map (λ (f : LiveFlow). f.sid) flows)
order-sids [] up = tt
order-sids (f ∷ flows) up = (
  all-map (λ n. f.sid ≤ n) (λ (g : LiveFlow). g.sid) flows
      (all-implied (λ (g : LiveFlow). f.sid < g.sid) (λ g. f.sid ≤ g.sid) flows (λ g lt. omega (arith, lt)) up.0),
  order-sids flows up.1,
)

count-map : {X : Type 0} (p : ℕ → Bool) (h : X → ℕ) (xs : List X) → count_by p (map h xs) ≡ count_by (λ x. p (h x)) xs
count-map p h [] = refl
count-map p h (x ∷ xs) =
    omega (arith, count-cons p (h x) (map h xs), count-map p h xs, count-cons (λ y. p (h y)) x xs)

none-taken : (q : ℕ → Bool) (n : ℕ) (xs : List ℕ) → AllByRecursion (λ x. n ≤ x) xs
    → count_by (λ x. nat_lt x n && q x) xs ≡ 0
none-taken q n [] all = refl
none-taken q n (x ∷ xs) all =
    let no' : nat_lt x n ≡ false = let above = all.0 in grind (arith, nat_tests) in
    omega (
      arith,
      count-cons (λ y. nat_lt y n && q y) x xs,
      ap (λ b. cond {A = ℕ} (b && q x) 1 0) no',
      none-taken q n xs all.1,
    )

-- of numbers that ascend the first so many are those less than the next
count-taken : (q : ℕ → Bool) (xs : List ℕ) (m d : ℕ) → AscendBy itself xs → m < length xs
    → count_by (λ x. nat_lt x (get_or xs m d) && q x) xs ≡ count_by q (take m xs)
count-taken q [] m d up lt = absurd (omega arith)
count-taken q (x ∷ xs) zero d up lt =
    none-taken q x (x ∷ xs) (omega arith, all-implied (λ y. x < y) (λ y. x ≤ y) xs (λ y less. omega (arith, less)) up.0)
count-taken q (x ∷ xs) (suc m) d up lt =
    let above : x < get_or xs m d = All-from_recursion (λ y. x < y) xs up.0 m d (omega arith) in
    let yes' : nat_lt x (get_or xs m d) ≡ true = grind (arith, nat_tests) in
    omega (
      arith,
      count-cons (λ y. nat_lt y (get_or xs m d) && q y) x xs,
      ap (λ b. cond {A = ℕ} (b && q x) 1 0) yes',
      count-taken q xs m d up.1 (omega arith),
      count-cons q x (take m xs),
    )

and-true : (b : Bool) → (b && true) ≡ b
and-true true = refl
and-true false = refl

shown-test : (shown w less : Bool) (a b : Bool) → shown ≡ (w && less) → a ≡ b → (w && (less && a)) ≡ (shown && b)
shown-test shown true true a b is same = rw is same
shown-test shown true false a b is same = rw is refl
shown-test shown false less a b is same = rw is refl

module _ (most : ℕ) (flows : List LiveFlow) (ascending : Ascend flows)
    (small : AllByRecursion (λ f. f.sid < 2 ^ 16) flows) where
  -- where no more wait all that wait are shown
  pub shown-few : count_by waits flows ≤ most → filter (is_shown most flows) flows ≡ filter waits flows
  shown-few few =
      filter-same (is_shown most flows) waits flows
      (all-implied (λ f. is_shown most flows f ≡ (waits f && true)) (λ f. is_shown most flows f ≡ waits f) flows
      (λ f is. is ∙ and-true (waits f))
      (all-shown most flows ascending small None (few-wait most flows ascending small few)))

  tested : (n : ℕ) (p : ℕ → Bool) (fs : List LiveFlow) → AllByRecursion (λ f. f.sid < 2 ^ 16) fs
      → AllByRecursion (λ f. is_shown most flows f ≡ (waits f && nat_lt (number_in_line f) n)) fs
      → AllByRecursion (λ f. (waits f && (nat_lt (number_in_line f) n && p (sid_of (number_in_line f))))
      ≡ (is_shown most flows f && p f.sid)) fs
  tested n p [] little is = tt
  tested n p (f ∷ fs) little is =
      let ends : sid_of (number_in_line f) ≡ f.sid = omega (arith, little.0) in (
        shown-test (is_shown most flows f) (waits f) (nat_lt (number_in_line f) n) (p (sid_of (number_in_line f)))
            (p f.sid) is.0 (ap p ends),
        tested n p fs little.1 is.1,
      )

  -- and else the flows with the first numbers in line
  pub shown-many : most < length (sorted (numbers_of flows))
      → sorted (map sid_of (take most (sorted (numbers_of flows))))
      ≡ map (λ (f : LiveFlow). f.sid) (filter (is_shown most flows) flows)
  shown-many lt =
      let whole = sorted (numbers_of flows) in
      let n = get_or whole most 0 in
      let is = all-shown most flows ascending small (Some (record { number = n }))
      (some-hidden most flows ascending small n lt (get_or_default whole most n 0 lt)) in
      sorted-same (map sid_of (take most whole)) (map (λ (f : LiveFlow). f.sid) (filter (is_shown most flows) flows))
      (λ p.
      let q : ℕ → Bool = λ m. nat_lt m n && p (sid_of m) in
      count-map p sid_of (take most whole)
      ∙ sym (count-taken (λ m. p (sid_of m)) whole most 0 (ascends flows ascending small) lt)
      ∙ count-sorted q (numbers_of flows)
      ∙ count-kept q number_in_line waits flows
      ∙ count-same (λ f. waits f && q (number_in_line f)) (λ f. is_shown most flows f && p f.sid) flows
      (tested n p flows small is)
      ∙ sym (count-kept p (λ (f : LiveFlow). f.sid) (is_shown most flows) flows))
      (order-sids (filter (is_shown most flows) flows)
      (ascends-filter (λ (f : LiveFlow). f.sid) (is_shown most flows) flows ascending))
