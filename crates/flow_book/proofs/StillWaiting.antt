-- Those of a queue that still wait.
use Rattle.std.proofs.Common.{◌≡◌, refl, sym, ap, ◌∙◌, subst, ℕ, zero, suc, ◌<◌, ◌⊎◌, inl, inr, Bool, true, false, cond}
use Rattle.std.proofs.Common.{List, [], ◌∷◌, ◌++◌, filter, length, get_or, set, remove, slice_get, Some, take, drop}
use Rattle.std.proofs.Common.{arith}
use Rattle.std.proofs.Common.{◌+◌, ◌≤◌, not, nat_lt}
use Rattle.std.specs.List.{AllByRecursion, position_or_len}
use Rattle.std.proofs.lemmas.List.{take-append-drop}
use Rattle.std.proofs.lemmas.Bool.{cond_both, cases_eq}
use Rattle.std.proofs.lemmas.Bool.Decides.{nat_tests}
use Rattle.std.proofs.lemmas.List.Elements.{filter-append}
use Rattle.flow_book.specs.declared.flow.Flow.{Flow}
use Rattle.flow_book.specs.declared.waiting.Waiting.{Waiting}
use Rattle.flow_book.specs.Flows.{outstanding}
use Rattle.flow_book.specs.Entry.{live}
use Rattle.flow_book.specs.Queue.{IsAt, IsIn, IsQueue, IsQueueIn, IsOrderIn, still_waits}
use Rattle.flow_book.proofs.Queues.{wants-at}
use Rattle.sched_calls.specs.Sids.{AscendBy}
use Rattle.flow_book.proofs.Order.{all-implied}
use Rattle.sched_calls.proofs.Removal.{all-filter, ascends-filter}

-- a place in the queue, or not
pub in-or-out : (place : ℕ) (queue : List Waiting) → IsIn place queue ⊎ (IsIn place queue → ⊥)
in-or-out place [] = inr (λ here. here)
in-or-out place (w ∷ queue) = elim (cases_eq w.place place) [
  | inl same ↦ inl (inl same)
  | inr differ ↦ elim (in-or-out place queue) [
    | inl rest ↦ inl (inr rest)
    | inr out ↦ inr (λ here. elim here [ inl same ↦ differ same | inr rest ↦ out rest ])
  ]
]

module _ {X : Type 0} where
  -- what holds of each holds of the one at a place
  pub all-at : (P : X → Type 0) (xs : List X) (k : ℕ) (x : X) → AllByRecursion P xs → slice_get xs k ≡ Some x → P x
  all-at P [] k x all found = absurd (cc)
  all-at P (y ∷ xs) zero x all found = let e : Some y ≡ Some x = found in let same : y ≡ x = cc in subst P same all.0
  all-at P (y ∷ xs) (suc k) x all found = all-at P xs k x all.1 found

  kept-cond : (P : X → Type 0) (p : X → Bool) (b : Bool) (x : X) (xs : List X) → AllByRecursion P (cond b (x ∷ xs) xs)
      → (b ≡ true → P x) × AllByRecursion P xs
  kept-cond P p true x xs all = ((λ pass. all.0), all.1)
  kept-cond P p false x xs all = ((λ pass. absurd (cc)), all)

  -- what holds of each that passes holds of one that passes
  pub kept-at : (P : X → Type 0) (p : X → Bool) (xs : List X) (i : ℕ) (d : X) → i < length xs → p (get_or xs i d) ≡ true
      → AllByRecursion P (filter p xs) → P (get_or xs i d)
  kept-at P p [] i d lt pass all = absurd (omega arith)
  kept-at P p (x ∷ xs) zero d lt pass all = (kept-cond P p (p x) x (filter p xs) all).0 pass
  kept-at P p (x ∷ xs) (suc i) d lt pass all =
      kept-at P p xs i d (omega arith) pass (kept-cond P p (p x) x (filter p xs) all).1

  -- and so with one more behind all
  pub kept-more : (P : X → Type 0) (p : X → Bool) (xs : List X) (x : X) → (p x ≡ true → P x)
      → AllByRecursion P (filter p xs) → AllByRecursion P (filter p (xs ++ x ∷ []))
  kept-more P p [] x here all =
      cond_both (p x) (x ∷ []) [] (AllByRecursion P) (λ pass. (here pass, tt)) (λ fail. tt)
  kept-more P p (y ∷ xs) x here all =
      let both = kept-cond P p (p y) y (filter p xs) all in
      let rest = kept-more P p xs x here both.1 in
      cond_both (p y) (y ∷ filter p (xs ++ x ∷ [])) (filter p (xs ++ x ∷ [])) (AllByRecursion P)
      (λ pass. (both.0 pass, rest)) (λ fail. rest)

  -- one that passes stands between those that do
  pub filter-split : (p : X → Bool) (front : List X) (x : X) (back : List X) → p x ≡ true
      → filter p (front ++ x ∷ back) ≡ filter p front ++ x ∷ filter p back
  filter-split p front x back pass = rw (filter-append p front (x ∷ back), pass) refl

  index-cond : (b : Bool) (x : X) (xs ys : List X) (d e : X)
      → (j : ℕ) × (j < length xs) × (get_or xs j d ≡ e) × (remove xs j ≡ ys)
      → (j : ℕ) × (j < length (cond b (x ∷ xs) xs)) × (get_or (cond b (x ∷ xs) xs) j d ≡ e)
      × (remove (cond b (x ∷ xs) xs) j ≡ cond b (x ∷ ys) ys)
  index-cond true x xs ys d e rest = (suc rest.0, omega (arith, rest.1), rest.2, ap (λ zs. x ∷ zs) rest.3)
  index-cond false x xs ys d e rest = rest

  -- one that passes has a place among those that do
  pub kept-index : (p : X → Bool) (xs : List X) (i : ℕ) (d : X) → i < length xs → p (get_or xs i d) ≡ true
      → (j : ℕ) × (j < length (filter p xs)) × (get_or (filter p xs) j d ≡ get_or xs i d)
      × (remove (filter p xs) j ≡ filter p (remove xs i))
  kept-index p [] i d lt pass = absurd (omega arith)
  kept-index p (x ∷ xs) zero d lt pass = rw pass (0, omega arith, refl, refl)
  kept-index p (x ∷ xs) (suc i) d lt pass =
      index-cond (p x) x (filter p xs) (filter p (remove xs i)) d (get_or xs i d) (kept-index p xs i d
      (omega arith) pass)

  -- where one that does not pass takes the place of another, the others are left
  pub gone-kept : (p : X → Bool) (xs : List X) (i : ℕ) (e : X) → i < length xs → p e ≡ false
      → filter p (set xs i e) ≡ filter p (remove xs i)
  gone-kept p [] i e lt fails = absurd (omega arith)
  gone-kept p (x ∷ xs) zero e lt fails = rw fails refl
  gone-kept p (x ∷ xs) (suc i) e lt fails =
      ap (λ ys. cond (p x) (x ∷ ys) ys) (gone-kept p xs i e (omega arith) fails)

  -- what holds of each holds of those before a place, and of the others
  pub all-parts : (P : X → Type 0) (n : ℕ) (xs : List X) → AllByRecursion P xs
      → AllByRecursion P (take n xs) × AllByRecursion P (drop n xs)
  all-parts P zero xs all = (tt, all)
  all-parts P (suc n) [] all = (tt, tt)
  all-parts P (suc n) (x ∷ xs) all = let rest = all-parts P n xs all.1 in ((all.0, rest.0), rest.1)

  pub all-joined : (P : X → Type 0) (xs ys : List X) → AllByRecursion P xs → AllByRecursion P ys
      → AllByRecursion P (xs ++ ys)
  all-joined P [] ys all all' = all'
  all-joined P (x ∷ xs) ys all all' = (all.0, all-joined P xs ys all.1 all')

  -- and of each of the second where it holds of each of both
  pub all-behind : (P : X → Type 0) (xs ys : List X) → AllByRecursion P (xs ++ ys) → AllByRecursion P ys
  all-behind P [] ys all = all
  all-behind P (x ∷ xs) ys all = all-behind P xs ys all.1

  -- what holds of those that pass before a place, and of the others, holds of all that pass
  pub kept-parts : (P : X → Type 0) (p : X → Bool) (n : ℕ) (xs : List X) → AllByRecursion P (filter p (take n xs))
      → AllByRecursion P (drop n xs) → AllByRecursion P (filter p xs)
  kept-parts P p n xs all all' =
      let is : filter p xs ≡ filter p (take n xs) ++ filter p (drop n xs) =
      ap (filter p) (sym (take-append-drop n xs)) ∙ filter-append p (take n xs) (drop n xs) in
      rw is (all-joined P (filter p (take n xs)) (filter p (drop n xs)) all (all-filter P p (drop n xs) all'))

  -- those before a place ascend where all do
  pub ascends-take : (number : X → ℕ) (n : ℕ) (xs : List X) → AscendBy number xs → AscendBy number (take n xs)
  ascends-take number zero xs up = tt
  ascends-take number (suc n) [] up = tt
  ascends-take number (suc n) (x ∷ xs) up =
      ((all-parts (λ y. number x < number y) n xs up.0).0, ascends-take number n xs up.1)

  -- the one at a place before this one is at it in the whole list
  pub in-take : (n : ℕ) (xs : List X) (i : ℕ) (x : X) → slice_get (take n xs) i ≡ Some x → slice_get xs i ≡ Some x
  in-take zero xs i x found = absurd (cc)
  in-take (suc n) [] i x found = absurd (cc)
  in-take (suc n) (y ∷ xs) zero x found = found
  in-take (suc n) (y ∷ xs) (suc i) x found = in-take n xs i x found

  -- of ascending numbers those behind a place are higher than one before it
  pub later-behind : (number : X → ℕ) (n : ℕ) (xs : List X) (i : ℕ) (x : X) → slice_get (take n xs) i ≡ Some x
      → AscendBy number xs → AllByRecursion (λ y. number x < number y) (drop n xs)
  later-behind number zero xs i x found up = absurd (cc)
  later-behind number (suc n) [] i x found up = tt
  later-behind number (suc n) (y ∷ xs) zero x found up =
      let e : Some y ≡ Some x = found in
      let is : y ≡ x = cc in
      (all-parts (λ z. number x < number z) n xs (subst (λ z. AllByRecursion (λ u. number z < number u) xs) is up.0)).1
  later-behind number (suc n) (y ∷ xs) (suc i) x found up = later-behind number n xs i x found up.1

  around-cond : (b : Bool) (number : X → ℕ) (turn : ℕ) (x : X) (xs : List X) (n : ℕ) → nat_lt turn (number x) ≡ b
      → AllByRecursion (λ y. number x < number y) xs
      → AllByRecursion (λ y. number y ≤ turn) (take n xs) × AllByRecursion (λ y. turn ≤ number y) (drop n xs)
      → AllByRecursion (λ y. number y ≤ turn) (take (cond (not b) (1 + n) 0) (x ∷ xs))
      × AllByRecursion (λ y. turn ≤ number y) (drop (cond (not b) (1 + n) 0) (x ∷ xs))
  around-cond true number turn x xs n is up rest =
      let low : turn < number x = grind (arith, nat_tests) in (
        tt,
        (
          omega arith,
          all-implied (λ y. number x < number y) (λ y. turn ≤ number y) xs (λ y lt. omega
              (arith, low, lt)) up,
        ),
      )
  around-cond false number turn x xs n is up rest =
      let next : 1 + n ≡ suc n = omega arith in
      let high : number x ≤ turn = grind (arith, nat_tests) in
      rw next ((high, rest.0), rest.1)

  -- those before the first of a higher number are no higher, and the others are no lower
  pub around : (number : X → ℕ) (turn : ℕ) (xs : List X) → AscendBy number xs
      → AllByRecursion (λ y. number y ≤ turn) (take (position_or_len (λ y. nat_lt turn (number y)) xs) xs)
      × AllByRecursion (λ y. turn ≤ number y) (drop (position_or_len (λ y. nat_lt turn (number y)) xs) xs)
  around number turn [] up = (tt, tt)
  around number turn (x ∷ xs) up =
      around-cond (nat_lt turn (number x)) number turn x xs (position_or_len (λ y. nat_lt turn (number y)) xs) refl up.0
      (around number turn xs up.1)

  -- where none passes of those before a place what holds of each is true of them
  pub none-kept : (P : X → Type 0) (p : X → Bool) (xs : List X) → AllByRecursion (λ x. p x ≡ false) xs
      → AllByRecursion P (filter p xs)
  none-kept P p [] all = tt
  none-kept P p (x ∷ xs) all = rw all.0 (none-kept P p xs all.1)

-- where a flow still waits its place stays in the queue
pub stays-in : (items : List Flow) (queue : List Waiting) (place : ℕ) (g : Flow) → slice_get items place ≡ Some g
    → 0 < outstanding (live g) → AllByRecursion (IsAt items) queue → IsIn place queue
    → IsIn place (filter still_waits queue)
stays-in items [] place g found waits all here = absurd here
stays-in items (w ∷ queue) place g found waits all (inl same) =
    let wants = wants-at items w g all.0 (ap (slice_get items) same ∙ found) in
    let still : still_waits w ≡ true = grind (arith, nat_tests) in
    rw still (inl same)
stays-in items (w ∷ queue) place g found waits all (inr rest) =
    let stays = stays-in items queue place g found waits all.1 rest in
    cond_both (still_waits w) (w ∷ filter still_waits queue) (filter still_waits queue) (IsIn place)
    (λ pass. inr stays) (λ fail. stays)

none-empty : (ws : List Waiting) → AllByRecursion (λ w. IsIn w.place [] → ⊥) ws
none-empty [] = tt
none-empty (w ∷ ws) = ((λ here. here), none-empty ws)

-- the queue of a book has two parts, none served
pub none-served : (items : List Flow) (queue : List Waiting) → IsQueue items queue → IsQueueIn items queue []
none-served items queue is = record {
  served_ones = record {
    ascending = tt;
    each = tt;
    among = tt;
    whole = λ place f found here waits. absurd here;
  };
  others = record {
    ascending = ascends-filter (λ w. w.turn) still_waits queue is.ascending;
    each = all-filter (IsAt items) still_waits queue is.each;
    among = none-empty (filter still_waits queue);
    whole = λ place f found out waits. stays-in items queue place f found waits is.each
        (is.whole place f found tt waits);
  };
}

-- all that wait are in two parts, of which one has none where few wait
pub order-in : (b : Bool) (items : List Flow) (queue served : List Waiting) → IsOrderIn b items queue served
    → IsQueueIn items queue served
order-in true items queue served is = is
order-in false items queue served is = subst (λ ws. IsQueueIn items queue ws) (sym is.1) (record {
  served_ones = record {
    ascending = tt;
    each = tt;
    among = tt;
    whole = λ place f found here waits. absurd here;
  };
  others = record {
    ascending = is.0.waiting.ascending;
    each = is.0.waiting.each;
    among = none-empty (filter still_waits queue);
    whole = λ place f found out waits. is.0.waiting.whole place f found tt waits;
  };
})

-- of a queue those that still wait are all that wait
pub still-queue : (items : List Flow) (queue : List Waiting) → IsQueue items queue
    → IsQueue items (filter still_waits queue)
still-queue items queue is =
    let others = (none-served items queue is).others in
    record {
      ascending = others.ascending;
      each = others.each;
      among = all-any (filter still_waits queue);
      whole = λ place f found may waits. others.whole place f found (λ here. here) waits;
    }
  where
    all-any : (ws : List Waiting) → AllByRecursion (λ w. Unit {0}) ws
    all-any [] = tt
    all-any (w ∷ ws) = (tt, all-any ws)
