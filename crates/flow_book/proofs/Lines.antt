-- Numbers that are put in order one by one, of which the first so many are kept.
use Rattle.std.proofs.Common.{◌≡◌, refl, sym, ap, ◌∙◌, ℕ, zero, suc, ◌+◌, ◌-◌, ◌<◌, ◌≤◌, Bool, true, false, cond, ◌==◌, nat_lt}
use Rattle.std.proofs.Common.{List, [], ◌∷◌, ◌++◌, map, filter, find, take, length, get_or, slice_get, Option, Some, None, ◌&&◌, ◌≢◌, true≢false, arith}
use Rattle.std.specs.List.{AllByRecursion, count_by}
use Rattle.std.proofs.lemmas.Bool.{cond_both}
use Rattle.std.proofs.lemmas.Bool.Decides.{nat_tests}
use Rattle.std.proofs.lemmas.Option.{slice_get-get_or, same_Some}
use Rattle.std.proofs.lemmas.List.{take-take}
use Rattle.std.proofs.lemmas.List.Elements.{All-from_recursion}
use Rattle.std.proofs.lemmas.List.Sums.{sum_by-cons}
use Rattle.sched_calls.specs.Sids.{AscendBy, put_in}
use Rattle.flow_book.specs.Line.{itself, sorted_into, IsInOrder}
use Rattle.sched_calls.proofs.Insertion.{all-put_in, length-put_in, ascends-put_in}

-- the first so many with a number more are those of all with it
take-again : (m y : ℕ) (ys : List ℕ) → take m (y ∷ take m ys) ≡ take m (y ∷ ys)
take-again zero y ys = refl
take-again (suc m) y ys = ap (λ rest. y ∷ rest) (take-take m (suc m) ys (omega arith))

take-cond : (b : Bool) (m n y : ℕ) (ys zs ws : List ℕ) → take m (y ∷ take m ys) ≡ take m (y ∷ ys) → take m zs ≡ take m ws
    → take (suc m) (cond b (n ∷ y ∷ take m ys) (y ∷ zs)) ≡ take (suc m) (cond b (n ∷ y ∷ ys) (y ∷ ws))
take-cond true m n y ys zs ws same other = ap (λ rest. n ∷ rest) same
take-cond false m n y ys zs ws same other = ap (λ rest. y ∷ rest) other

pub take-put_in : (m n : ℕ) (line : List ℕ) → take m (put_in itself n (take m line)) ≡ take m (put_in itself n line)
take-put_in zero n line = refl
take-put_in (suc m) n [] = refl
take-put_in (suc m) n (y ∷ ys) =
    take-cond (nat_lt n y) m n y ys (put_in itself n (take m ys)) (put_in itself n ys) (take-again m y ys)
    (take-put_in m n ys)

-- none are the first of none
pub take-none : (m : ℕ) → take {A = ℕ} m [] ≡ []
take-none zero = refl
take-none (suc m) = refl

-- numbers behind others are put in behind them
pub sorted_into-append : (line ns ms : List ℕ) → sorted_into line (ns ++ ms) ≡ sorted_into (sorted_into line ns) ms
sorted_into-append line [] ms = refl
sorted_into-append line (n ∷ ns) ms = sorted_into-append (put_in itself n line) ns ms

put-cond : (m n y : ℕ) (ys : List ℕ) → put_in itself m (put_in itself n ys) ≡ put_in itself n (put_in itself m ys)
    → put_in itself m (put_in itself n (y ∷ ys)) ≡ put_in itself n (put_in itself m (y ∷ ys))
put-cond m n y ys same = grind (arith, nat_tests, same)

-- two numbers are put in either first
pub put_in-either : (m n : ℕ) (line : List ℕ) → put_in itself m (put_in itself n line) ≡ put_in itself n (put_in itself m line)
put_in-either m n [] = grind (arith, nat_tests)
put_in-either m n (y ∷ ys) = put-cond m n y ys (put_in-either m n ys)

module _ {X : Type 0} where
  -- what holds of all holds of the first so many
  pub all-take : (P : X → Type 0) (m : ℕ) (xs : List X) → AllByRecursion P xs → AllByRecursion P (take m xs)
  all-take P zero xs all = tt
  all-take P (suc m) [] all = tt
  all-take P (suc m) (x ∷ xs) all = (all.0, all-take P m xs all.1)

all-later : (m n : ℕ) (ns : List ℕ) → m ≤ n → AllByRecursion (λ k. n ≤ k) ns → AllByRecursion (λ k. m ≤ k) ns
all-later m n [] le all = tt
all-later m n (k ∷ ns) le all = (omega (arith, all.0), all-later m n ns le all.1)

-- with a number put in they stand in order
pub order-put_in : (n : ℕ) (line : List ℕ) → IsInOrder line → IsInOrder (put_in itself n line)
order-put_in n [] order = (tt, tt)
order-put_in n (m ∷ line) order =
    cond_both (nat_lt n m) (n ∷ m ∷ line) (m ∷ put_in itself n line) IsInOrder
    (λ low. let le : n ≤ m = grind (arith, nat_tests) in ((le, all-later n m line le order.0), order))
    (λ high. let le : m ≤ n = grind (arith, nat_tests) in
    (all-put_in itself (λ k. m ≤ k) n line le order.0, order-put_in n line order.1))

-- and the first so many of them
pub order-take : (m : ℕ) (line : List ℕ) → IsInOrder line → IsInOrder (take m line)
order-take zero line order = tt
order-take (suc m) [] order = tt
order-take (suc m) (n ∷ line) order = (all-take (λ k. n ≤ k) m line order.0, order-take m line order.1)

-- none is less than one before it
pub order-rises : (line : List ℕ) (i j d : ℕ) → IsInOrder line → i ≤ j → j < length line
    → get_or line i d ≤ get_or line j d
order-rises [] i j d order le lt = absurd (omega arith)
order-rises (n ∷ line) zero zero d order le lt = omega arith
order-rises (n ∷ line) (suc i) zero d order le lt = absurd (omega arith)
order-rises (n ∷ line) zero (suc j) d order le lt =
    All-from_recursion (λ k. n ≤ k) line order.0 j d (omega arith)
order-rises (n ∷ line) (suc i) (suc j) d order le lt = order-rises line i j d order.1 (omega arith) (omega arith)

-- a number no less than the last of a line comes behind it
pub put_in-behind : (n : ℕ) (line : List ℕ) → ((i d : ℕ) → i < length line → get_or line i d ≤ n)
    → put_in itself n line ≡ line ++ n ∷ []
put_in-behind n [] all = refl
put_in-behind n (m ∷ line) all =
    let no' : nat_lt n m ≡ false = let le = all 0 0 (omega arith) in grind (arith, nat_tests) in
    rw no' (ap (λ ns. m ∷ ns) (put_in-behind n line (λ i d lt. all (suc i) d (omega arith))))

take-front : (xs : List ℕ) (n : ℕ) → take (length xs) (xs ++ n ∷ []) ≡ xs
take-front [] n = refl
take-front (x ∷ xs) n = ap (λ ys. x ∷ ys) (take-front xs n)

-- the last of a line is no greater where its value is
pub last-most : (line : List ℕ) (last n : ℕ) → Some last ≡ slice_get line (length line - 1) → last ≤ n
    → (d : ℕ) → 0 < length line → get_or line (length line - 1) d ≤ n
last-most line last n is le d some =
    omega (arith, le, same_Some _ _ (sym (slice_get-get_or line (length line - 1) d (omega (arith, some))) ∙ sym is))

-- and has no place among as many
pub stays-behind : (m n : ℕ) (line : List ℕ) → IsInOrder line → length line ≡ m
    → ((d : ℕ) → 0 < length line → get_or line (length line - 1) d ≤ n) → take m (put_in itself n line) ≡ line
stays-behind m n line order full last =
    ap (take m) (put_in-behind n line (λ i d lt.
    omega (arith, order-rises line i (length line - 1) d order (omega arith) (omega arith), last d (omega arith))))
    ∙ ap (λ k. take k (line ++ n ∷ [])) (sym full) ∙ take-front line n

-- a number that none of them is
abbrev pub IsNew : ℕ → List ℕ → Type 0
IsNew n line = AllByRecursion (λ m. m ≢ n) line

find-cond : (b : Bool) (m : ℕ) (o : Option ℕ) → b ≡ false → o ≡ None → cond b (Some m) o ≡ None
find-cond b m o differs none = rw differs none

new-none : (n : ℕ) (line : List ℕ) → IsNew n line → find (λ m. itself m == itself n) line ≡ None
new-none n [] all = refl
new-none n (m ∷ line) all =
    let no : (m == n) ≡ false = let differ = all.0 in grind (arith, nat_tests) in
    find-cond (m == n) m (find (λ k. k == n) line) no (new-none n line all.1)

-- with a number of its own in order they ascend
pub ascends-more : (n : ℕ) (line : List ℕ) → IsNew n line → AscendBy itself line → AscendBy itself (put_in itself n line)
ascends-more n line new up = ascends-put_in itself n line (new-none n line new) up

pub count-cons : {X : Type 0} (p : X → Bool) (x : X) (xs : List X) → count_by p (x ∷ xs) ≡ cond (p x) 1 0 + count_by p xs
count-cons p x xs = sum_by-cons (λ y. cond (p y) 1 0) x xs

-- how many of them pass a test
count-put_in : (p : ℕ → Bool) (n : ℕ) (line : List ℕ)
    → count_by p (put_in itself n line) ≡ cond (p n) 1 0 + count_by p line
count-put_in p n [] = count-cons p n []
count-put_in p n (m ∷ line) =
    cond_both (nat_lt n m) (n ∷ m ∷ line) (m ∷ put_in itself n line)
    (λ ns. count_by p ns ≡ cond (p n) 1 0 + count_by p (m ∷ line))
    (λ low. count-cons p n (m ∷ line))
    (λ high. omega (arith, count-cons p m (put_in itself n line), count-put_in p n line, count-cons p m line))

pub count-sorted_into : (p : ℕ → Bool) (line ns : List ℕ)
    → count_by p (sorted_into line ns) ≡ count_by p line + count_by p ns
count-sorted_into p line [] = omega arith
count-sorted_into p line (n ∷ ns) =
    omega (arith, count-sorted_into p (put_in itself n line) ns, count-put_in p n line, count-cons p n ns)

pub length-sorted_into : (line ns : List ℕ) → length (sorted_into line ns) ≡ length line + length ns
length-sorted_into line [] = omega arith
length-sorted_into line (n ∷ ns) =
    omega (arith, length-sorted_into (put_in itself n line) ns, length-put_in itself n line)

-- what holds of all of them holds of them in order
pub all-sorted_into : (P : ℕ → Type 0) (line ns : List ℕ) → AllByRecursion P line → AllByRecursion P ns
    → AllByRecursion P (sorted_into line ns)
all-sorted_into P line [] here all = here
all-sorted_into P line (n ∷ ns) here all =
    all-sorted_into P (put_in itself n line) ns (all-put_in itself P n line all.0 here) all.1

none-below : (n : ℕ) (xs : List ℕ) → AllByRecursion (λ x. n < x) xs → count_by (λ x. nat_lt x n) xs ≡ 0
none-below n [] all = refl
none-below n (x ∷ xs) all =
    let no : nat_lt x n ≡ false = let above = all.0 in grind (arith, nat_tests) in
    omega (arith, count-cons (λ y. nat_lt y n) x xs, ap (λ b. cond {A = ℕ} b 1 0) no, none-below n xs all.1)

-- of numbers that ascend so many are less than one as stand before it
pub count-below : (xs : List ℕ) (i d : ℕ) → AscendBy itself xs → i < length xs
    → count_by (λ x. nat_lt x (get_or xs i d)) xs ≡ i
count-below [] i d up lt = absurd (omega arith)
count-below (x ∷ xs) zero d up lt =
    let no : nat_lt x x ≡ false = grind (arith, nat_tests) in
    omega (arith, count-cons (λ y. nat_lt y x) x xs, ap (λ b. cond {A = ℕ} b 1 0) no, none-below x xs up.0)
count-below (x ∷ xs) (suc i) d up lt =
    let above : x < get_or xs i d = All-from_recursion (λ y. x < y) xs up.0 i d (omega arith) in
    let yes' : nat_lt x (get_or xs i d) ≡ true = grind (arith, nat_tests) in
    omega (
      arith,
      count-cons (λ y. nat_lt y (get_or xs i d)) x xs,
      ap (λ b. cond {A = ℕ} b 1 0) yes',
      count-below xs i d up.1 (omega arith),
    )

module _ {X Y : Type 0} (p : Y → Bool) (h : X → Y) (w : X → Bool) where
  kept-cond : (b : Bool) (x : X) (xs : List X) (n : ℕ) → count_by p (map h xs) ≡ n
      → count_by p (map h (cond b (x ∷ xs) xs)) ≡ cond (b && p (h x)) 1 0 + n
  kept-cond true x xs n is = omega (arith, count-cons p (h x) (map h xs), is)
  kept-cond false x xs n is = omega (arith, is)

  -- how many of those that are kept pass a test
  pub count-kept : (xs : List X) → count_by p (map h (filter w xs)) ≡ count_by (λ x. w x && p (h x)) xs
  count-kept [] = refl
  count-kept (x ∷ xs) =
      kept-cond (w x) x (filter w xs) _ (count-kept xs) ∙ sym (count-cons (λ y. w y && p (h y)) x xs)

weaker-one : (a b : Bool) → (a ≡ true → b ≡ true) → cond {A = ℕ} a 1 0 ≤ cond {A = ℕ} b 1 0
weaker-one true true weaker = omega arith
weaker-one true false weaker = absurd (true≢false (sym (weaker refl)))
weaker-one false true weaker = omega arith
weaker-one false false weaker = omega arith

module _ {X : Type 0} where
  -- tests that agree count the same
  pub count-same : (p q : X → Bool) (xs : List X) → AllByRecursion (λ x. p x ≡ q x) xs → count_by p xs ≡ count_by q xs
  count-same p q [] all = refl
  count-same p q (x ∷ xs) all =
      omega (arith, count-cons p x xs, ap (λ b. cond {A = ℕ} b 1 0) all.0, count-same p q xs all.1, count-cons q x xs)

  -- a weaker test counts no fewer
  pub count-more : (p q : X → Bool) (xs : List X) → ((x : X) → p x ≡ true → q x ≡ true) → count_by p xs ≤ count_by q xs
  count-more p q [] weaker = omega arith
  count-more p q (x ∷ xs) weaker =
      omega (arith, count-cons p x xs, count-cons q x xs, weaker-one (p x) (q x) (weaker x), count-more p q xs weaker)

  -- and more where it takes one that the other does not
  pub count-one_more : (p q : X → Bool) (xs : List X) (i : ℕ) (x : X) → ((y : X) → p y ≡ true → q y ≡ true)
      → i < length xs → get_or xs i x ≡ x → p x ≡ false → q x ≡ true → count_by p xs < count_by q xs
  count-one_more p q [] i x weaker lt at fails takes = absurd (omega arith)
  count-one_more p q (y ∷ xs) zero x weaker lt at fails takes =
      omega (
        arith,
        count-cons p y xs,
        count-cons q y xs,
        ap (λ z. cond {A = ℕ} (p z) 1 0) at,
        ap (λ z. cond {A = ℕ} (q z) 1 0) at,
        ap (λ b. cond {A = ℕ} b 1 0) fails,
        ap (λ b. cond {A = ℕ} b 1 0) takes,
        count-more p q xs weaker,
      )
  count-one_more p q (y ∷ xs) (suc i) x weaker lt at fails takes =
      omega (
        arith,
        count-cons p y xs,
        count-cons q y xs,
        weaker-one (p y) (q y) (weaker y),
        count-one_more p q xs i x weaker (omega arith) at fails takes,
      )
