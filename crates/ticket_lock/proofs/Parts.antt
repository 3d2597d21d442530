-- Which numbers parts have, and how many turns they have ended.
use Rattle.std.proofs.Common.{◌≡◌, ◌≢◌, ℕ, zero, suc, ◌+◌, ◌-◌, ◌<◌, ◌≤◌, List, [], ◌∷◌, ◌++◌, length, refl, ap, ⊎_elim}
use Rattle.std.proofs.Common.{arith}
use Rattle.std.proofs.lemmas.Bool.{cases_eq}
use Rattle.std.proofs.lemmas.Bool.Decides.{nat_tests}
use Rattle.ticket_lock.specs.declared.board.Part.{Part}
use Rattle.ticket_lock.specs.Rule.{owns_of, once_below, ended_by, new_parts}
use Rattle.ticket_lock.specs.Plays.{parts_behind, parts_ahead}

module _ {E : Type 0} where
  -- parts and their first one have the numbers that the parts have
  pub owns_of-behind : (k : ℕ) (ps : List (Part E)) → owns_of k (parts_behind ps) + owns_of k (parts_ahead ps)
      ≡ owns_of k ps
  owns_of-behind k [] = refl
  owns_of-behind k (p ∷ ps) = omega arith

  -- as many parts as before
  pub length-behind : (ps : List (Part E)) → length (parts_behind ps) + length (parts_ahead ps) ≡ length ps
  length-behind [] = refl
  length-behind (p ∷ ps) = omega arith

  -- two lists of parts have the numbers of both
  pub owns_of-append : (k : ℕ) (ps qs : List (Part E)) → owns_of k (ps ++ qs) ≡ owns_of k ps + owns_of k qs
  owns_of-append k [] qs = omega arith
  owns_of-append k (p ∷ ps) qs = let rest = owns_of-append k ps qs in omega arith

  -- parts and their first one have ended the turns that the parts have
  pub ended_by-behind : (ps : List (Part E)) → ended_by (parts_behind ps) + ended_by (parts_ahead ps) ≡ ended_by ps
  ended_by-behind [] = refl
  ended_by-behind (p ∷ ps) = omega arith

  -- two lists of parts have ended the turns of both
  pub ended_by-append : (ps qs : List (Part E)) → ended_by (ps ++ qs) ≡ ended_by ps + ended_by qs
  ended_by-append [] qs = omega arith
  ended_by-append (p ∷ ps) qs = let rest = ended_by-append ps qs in omega arith

  -- no parts have ended none
  pub ended_by-none : (ps : List (Part E)) → length ps ≡ 0 → ended_by ps ≡ 0
  ended_by-none [] none = refl
  ended_by-none (p ∷ ps) none = absurd (omega arith)

  -- a part has a number at most once
  pub owns_of-length : (k : ℕ) (ps : List (Part E)) → owns_of k ps ≤ length ps
  owns_of-length k [] = omega arith
  owns_of-length k (p ∷ ps) = let rest = owns_of-length k ps in grind (arith, nat_tests)

module _ (E : Type 0) where
  -- new parts have no number before their first
  new_parts-before : (k i n : ℕ) → k < i → owns_of {E = E} k (new_parts i n) ≡ 0
  new_parts-before k i zero h = refl
  new_parts-before k i (suc n) h = let rest = new_parts-before k (i + 1) n (omega arith) in grind (arith, nat_tests)

  -- new parts have each number from their first on once
  pub new_parts-owned : (k i n : ℕ) → i ≤ k → owns_of {E = E} k (new_parts i n) ≡ once_below k (i + n)
  new_parts-owned k i zero h = grind (arith, nat_tests)
  new_parts-owned k i (suc n) h = ⊎_elim
      (λ (e : i ≡ k). let rest = new_parts-before k (i + 1) n (omega arith) in grind (arith, nat_tests))
      (λ (other : i ≢ k). let rest = new_parts-owned k (i + 1) n (omega arith) in grind (arith, nat_tests))
      (cases_eq i k)

  -- they have ended no turn
  pub ended_by-new_parts : (i n : ℕ) → ended_by (new_parts {E = E} i n) ≡ 0
  ended_by-new_parts i zero = refl
  ended_by-new_parts i (suc n) = let rest = ended_by-new_parts (i + 1) n in omega arith

  -- as many as asked
  pub length-new_parts : (i n : ℕ) → length (new_parts {E = E} i n) ≡ n
  length-new_parts i zero = refl
  length-new_parts i (suc n) = ap suc (length-new_parts (i + 1) n)

-- the parts from one number on are that one and those behind it
pub new_parts-next : (E : Type 0) (i n : ℕ) → i < n
    → new_parts {E = E} i (n - i) ≡ record { number = i; log = []; turns = 0 } ∷ new_parts (i + 1) (n - (i + 1))
new_parts-next E i n h = let next : n - i ≡ suc (n - (i + 1)) = omega arith in rw next
