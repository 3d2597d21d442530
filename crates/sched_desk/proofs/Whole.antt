-- At the close some seat has seen the whole history, and every entry is of one of the seats.
use Rattle.std.proofs.Common.{◌≡◌, ◌≢◌, ◌<◌, ◌≤◌, ◌+◌, ℕ, suc, true, false, cond, ◌==◌, List, [], ◌∷◌, ◌++◌, Any, refl}
use Rattle.std.proofs.Common.{sym, ap, ◌∙◌, subst, ⊎_elim, arith}
use Rattle.std.proofs.lemmas.Bool.Decides.{eqb_tells, nat_tests}
use Rattle.std.proofs.lemmas.List.{append-nil}
use mathlib.Core.List.{cons≢nil}
use Rattle.minislots.specs.declared.stamp.Stamp.{Stamp}
use Rattle.ticket_lock.specs.declared.board.Logged.{Logged}
use Rattle.ticket_lock.specs.Rule.{Every, Extends, IsOfOthers, IsStamped, once_below}
use Rattle.ticket_lock.specs.Standing.{Standing}
use Rattle.ticket_lock.specs.Calls.{bearers}

-- two facts of each member
pub Every-both : {X : Type 0} (P Q : X → Type 0) (xs : List X) → Every P xs → Every Q xs → Every (λ x. P x × Q x) xs
Every-both P Q [] a b = tt
Every-both P Q (x ∷ xs) a b = ((a.0, b.0), Every-both P Q xs a.1 b.1)

module _ {X : Type 0} (P : X → Type 0) where
  -- the first has it, or a later one
  Any-here : (x : X) (xs : List X) → P x → Any P (x ∷ xs)
  Any-here x xs p = (0, x, omega arith, refl, p)

  Any-there : (x : X) (xs : List X) → Any P xs → Any P (x ∷ xs)
  Any-there x xs (k, y, within, is, p) = (suc k, y, omega arith, is, p)

  -- a weaker fact
  pub Any-weaker : (Q : X → Type 0) → ((x : X) → P x → Q x) → (xs : List X) → Any P xs → Any Q xs
  Any-weaker Q weaker xs (k, y, within, is, p) = (k, y, within, is, weaker y p)

-- the last of a list that has this first member
abbrev last_of : {X : Type 0} → X → List X → X
last_of x [] = x
last_of x (y ∷ ys) = last_of y ys

module _ {X : Type 0} where
  -- the last of two lists is that of the second
  last_of-append : (x : X) (xs : List X) (y : X) (ys : List X) → last_of x (xs ++ y ∷ ys) ≡ last_of y ys
  last_of-append x [] y ys = refl
  last_of-append x (z ∷ xs) y ys = last_of-append z xs y ys

  -- a fact of each member is one of the last
  Every-last_of : (P : X → Type 0) (x : X) (xs : List X) → Every P (x ∷ xs) → P (last_of x xs)
  Every-last_of P x [] every = every.0
  Every-last_of P x (y ∷ ys) every = Every-last_of P y ys every.1

  -- the last member, in a list that is put together
  same_last : (x : X) (xs seen : List X) (y : X) (ys : List X) → x ∷ xs ≡ seen ++ y ∷ ys → last_of x xs ≡ last_of y ys
  same_last x xs seen y ys is = ap (last_of x) is ∙ last_of-append x seen y ys

module _ {E : Type 0} where
  -- what a seat has seen is all, where the last entry is its own
  seen_all : (stamp : E → Stamp) (x : Logged E) (xs seen more : List (Logged E)) (number : ℕ)
      → x ∷ xs ≡ seen ++ more → IsOfOthers stamp number more → number ≡ (stamp (last_of x xs).entry).seat
      → x ∷ xs ≡ seen
  seen_all stamp x xs seen [] number is others own = is ∙ append-nil seen
  seen_all stamp x xs seen (y ∷ ys) number is others own =
      absurd (Every-last_of (λ z. (stamp z.entry).seat ≢ number) y ys others
      (ap (λ (z : Logged E). (stamp z.entry).seat) (sym (same_last x xs seen y ys is)) ∙ sym own))

  -- nothing was seen of an empty log
  seen_nothing : (seen more : List (Logged E)) → ◌≡◌ {A = List (Logged E)} [] (seen ++ more)
      → ◌≡◌ {A = List (Logged E)} [] seen
  seen_nothing [] more is = refl
  seen_nothing (x ∷ seen) more is = absurd (cons≢nil (sym is))

module _ {H E : Type 0} (stamp : E → Stamp) where
  -- a seat of this number is among these, with what holds of each
  seat_with : (Q : Standing H E → Type 0) (k : ℕ) (seats : List (Standing H E)) → Every Q seats → 0 < bearers k seats
      → Any (λ s. (s.number ≡ k) × Q s) seats
  seat_with Q k [] every some = absurd (omega arith)
  seat_with Q k (s ∷ ss) every some = ⊎_elim
      (λ (same : (s.number == k ≡ true) × (s.number ≡ k)). Any-here (λ z. (z.number ≡ k) × Q z) s ss (same.1, every.0))
      (λ (apart : (s.number == k ≡ false) × (s.number ≢ k)). Any-there (λ z. (z.number ≡ k) × Q z) s ss
      (let more : 0 < 0 + bearers k ss = subst (λ b. 0 < cond b 1 0 + bearers k ss) apart.0 some in
      seat_with Q k ss every.1 (omega arith)))
      (eqb_tells s.number k)

  module _ (count : ℕ) (seats : List (Standing H E)) (numbers : (k : ℕ) → bearers k seats ≡ once_below k count) where
    -- each number below the count is a seat's
    seat_at : (Q : Standing H E → Type 0) → Every Q seats → (k : ℕ) → k < count → Any (λ s. (s.number ≡ k) × Q s) seats
    seat_at Q every k below =
        let once : once_below k count ≡ 1 = grind (arith, nat_tests) in
        seat_with Q k seats every (omega (arith, numbers k, once))

    -- some seat has seen the whole log
    pub one_saw_all : (R : Standing H E → Type 0) → 1 ≤ count → (log : List (Logged E))
        → Every (IsStamped stamp count) log
        → Every (λ s. R s × Extends stamp s.number s.log log) seats → Any (λ s. R s × (log ≡ s.log)) seats
    one_saw_all R some [] stamped each =
        Any-weaker (λ s. (s.number ≡ 0) × (R s × Extends stamp s.number s.log [])) (λ s. R s × ([] ≡ s.log))
        (λ s here. (here.1.0, seen_nothing s.log here.1.1.0 here.1.1.1)) seats
        (seat_at (λ s. R s × Extends stamp s.number s.log []) each 0 (omega arith))
    one_saw_all R some (x ∷ xs) stamped each =
        let k : ℕ = (stamp (last_of x xs).entry).seat in
        Any-weaker (λ s. (s.number ≡ k) × (R s × Extends stamp s.number s.log (x ∷ xs))) (λ s. R s × (x ∷ xs ≡ s.log))
        (λ s here. (here.1.0, seen_all stamp x xs s.log here.1.1.0 s.number here.1.1.1 here.1.1.2 here.0)) seats
        (seat_at (λ s. R s × Extends stamp s.number s.log (x ∷ xs)) each k
        (Every-last_of (IsStamped stamp count) x xs stamped).1)

    -- the maker of each entry is one of the seats
    pub makers_are : (log : List (Logged E)) → Every (IsStamped stamp count) log
        → Every (λ x. Any (λ s. s.number ≡ (stamp x.entry).seat) seats) log
    makers_are [] stamped = tt
    makers_are (x ∷ xs) stamped = (
      Any-weaker (λ s. (s.number ≡ (stamp x.entry).seat) × Unit {0}) (λ s. s.number ≡ (stamp x.entry).seat)
          (λ s here. here.0) seats
          (seat_at (λ s. Unit {0}) (all_are seats) (stamp x.entry).seat stamped.0.1),
      makers_are xs stamped.1,
    )
      where
        all_are : (ss : List (Standing H E)) → Every (λ s. Unit {0}) ss
        all_are [] = tt
        all_are (s ∷ ss) = (tt, all_are ss)
