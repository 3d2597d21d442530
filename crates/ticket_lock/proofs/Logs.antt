-- Logs of entries: their order, and what goes on from what was seen.
use Rattle.std.proofs.Common.{◌≢◌, ℕ, ◌+◌, ◌≤◌, List, [], ◌∷◌, ◌++◌, sym, ap, ◌∙◌, subst, arith}
use Rattle.std.proofs.lemmas.List.{append-nil, append_assoc}
use Rattle.minislots.specs.declared.stamp.Stamp.{Stamp}
use Rattle.ticket_lock.specs.declared.board.Logged.{Logged}
use Rattle.ticket_lock.specs.Rule.{Every, Ascends, IsOfOthers, Extends, IsStamped, IsOrdered}

module _ {X : Type 0} (P : X → Type 0) where
  -- a fact of each member of two lists is one of each member of both together
  pub Every-append : (xs ys : List X) → Every P xs → Every P ys → Every P (xs ++ ys)
  Every-append [] ys a b = b
  Every-append (x ∷ xs) ys a b = (a.0, Every-append xs ys a.1 b)

  -- it is one of each member of the first
  pub Every-front : (xs ys : List X) → Every P (xs ++ ys) → Every P xs
  Every-front [] ys a = tt
  Every-front (x ∷ xs) ys a = (a.0, Every-front xs ys a.1)

module _ {E : Type 0} where
  -- the bounds of ascending tickets are in order
  pub Ascends-bounds : (from : ℕ) (xs : List (Logged E)) (below : ℕ) → Ascends from xs below → from ≤ below
  Ascends-bounds from [] below a = a
  Ascends-bounds from (x ∷ xs) below a =
      let rest : x.ticket + 1 ≤ below = Ascends-bounds (x.ticket + 1) xs below a.1 in
      let here : from ≤ x.ticket = a.0 in omega arith

  -- tickets below a number are below a greater one
  pub Ascends-wider : (from : ℕ) (xs : List (Logged E)) (below wide : ℕ) → below ≤ wide → Ascends from xs below
      → Ascends from xs wide
  Ascends-wider from [] below wide h a = let here : from ≤ below = a in omega arith
  Ascends-wider from (x ∷ xs) below wide h a = (a.0, Ascends-wider (x.ticket + 1) xs below wide h a.1)

  -- the bound itself may come next
  pub Ascends-push : (from : ℕ) (xs : List (Logged E)) (x : Logged E) → Ascends from xs x.ticket
      → Ascends from (xs ++ x ∷ []) (x.ticket + 1)
  Ascends-push from [] x a = (a, omega arith)
  Ascends-push from (y ∷ xs) x a = (a.0, Ascends-push (y.ticket + 1) xs x a.1)

  -- the first of ascending tickets ascend
  pub Ascends-front : (from : ℕ) (xs ys : List (Logged E)) (below : ℕ) → Ascends from (xs ++ ys) below
      → Ascends from xs below
  Ascends-front from [] ys below a = Ascends-bounds from ys below a
  Ascends-front from (x ∷ xs) ys below a = (a.0, Ascends-front (x.ticket + 1) xs ys below a.1)

module _ {E : Type 0} (stamp : E → Stamp) (first seats : ℕ) where
  -- the front of an ordered log is ordered
  pub IsOrdered-front : (xs ys : List (Logged E)) (below : ℕ) → IsOrdered stamp first seats (xs ++ ys) below
      → IsOrdered stamp first seats xs below
  IsOrdered-front xs ys below o = (Ascends-front first xs ys below o.0, Every-front (IsStamped stamp seats) xs ys o.1)

  -- an ordered log is ordered below a greater ticket
  pub IsOrdered-wider : (xs : List (Logged E)) (below wide : ℕ) → below ≤ wide → IsOrdered stamp first seats xs below
      → IsOrdered stamp first seats xs wide
  IsOrdered-wider xs below wide h o = (Ascends-wider first xs below wide h o.0, o.1)

  -- a log with an entry of the bound behind it is ordered
  pub IsOrdered-push : (xs : List (Logged E)) (x : Logged E) → IsOrdered stamp first seats xs x.ticket
      → IsStamped stamp seats x
      → IsOrdered stamp first seats (xs ++ x ∷ []) (x.ticket + 1)
  IsOrdered-push xs x o is =
      (Ascends-push first xs x o.0, Every-append (IsStamped stamp seats) xs (x ∷ []) o.1 (is, tt))

  -- what was seen of an ordered log is ordered
  pub IsOrdered-seen : (number : ℕ) (seen log : List (Logged E)) (below : ℕ) → Extends stamp number seen log
      → IsOrdered stamp first seats log below
      → IsOrdered stamp first seats seen below
  IsOrdered-seen number seen log below e o =
      IsOrdered-front seen e.0 below (subst (λ (l : List (Logged E)). IsOrdered stamp first seats l below) e.1 o)

module _ {E : Type 0} (stamp : E → Stamp) (number : ℕ) where
  -- a log goes on from itself
  pub Extends-self : (log : List (Logged E)) → Extends stamp number log log
  Extends-self log = ([], sym (append-nil log), tt)

  -- a log that goes on by others' entries goes on from what was seen
  pub Extends-more : (seen log more : List (Logged E)) → Extends stamp number seen log → IsOfOthers stamp number more
      → Extends stamp number seen (log ++ more)
  Extends-more seen log more e o = (
    e.0 ++ more,
    ap (λ (l : List (Logged E)). l ++ more) e.1 ∙ append_assoc seen e.0 more,
    Every-append (λ (x : Logged E). (stamp x.entry).seat ≢ number) e.0 more e.2 o,
  )
