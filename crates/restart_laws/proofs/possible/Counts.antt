-- How many flows pass a test with one flow more, fewer, or changed.
use Rattle.std.proofs.Common.{◌≡◌, refl, ap, ℕ, ◌≤◌, ◌==◌, nat_lt, Bool, true, false, cond, List, [], ◌∷◌, filter}
use Rattle.std.proofs.Common.{arith}
use Rattle.std.specs.List.{AllByRecursion, count_by}
use Rattle.std.proofs.lemmas.Bool.{cond_both}
use Rattle.flow_book.specs.Book.{with_flow, changed}
use Rattle.flow_book.specs.Flows.{LiveFlow}
use Rattle.flow_book.proofs.Lines.{count-cons}

implied-one : (a b : Bool) → (a ≡ true → b ≡ true) → cond {A = ℕ} a 1 0 ≤ cond {A = ℕ} b 1 0
implied-one true true implies = omega arith
implied-one true false implies = absurd (let is = implies refl in cc)
implied-one false true implies = omega arith
implied-one false false implies = omega arith

module _ {X : Type 0} (p q : X → Bool) where
  -- no more pass a test than another that follows for each
  pub count-where : (xs : List X) → AllByRecursion (λ x. p x ≡ true → q x ≡ true) xs → count_by p xs ≤ count_by q xs
  count-where [] all = omega arith
  count-where (x ∷ xs) all =
      omega (arith, count-cons p x xs, count-cons q x xs, implied-one (p x) (q x) all.0, count-where xs all.1)

  -- nor of those that are left
  pub count-left : (xs : List X) → count_by p (filter q xs) ≤ count_by p xs
  count-left [] = omega arith
  count-left (x ∷ xs) =
      let rest = count-left xs in
      let all = count-cons p x xs in
      cond_both (q x) (x ∷ filter q xs) (filter q xs) (λ ys. count_by p ys ≤ count_by p (x ∷ xs))
      (λ kept. omega (arith, rest, all, count-cons p x (filter q xs))) (λ out. omega (arith, rest, all))

module _ (p : LiveFlow → Bool) where
  -- a flow more that does not pass is not counted
  pub count-with : (f : LiveFlow) → p f ≡ false → (flows : List LiveFlow)
      → count_by p (with_flow f flows) ≡ count_by p flows
  count-with f fails [] = omega (arith, count-cons p f [], ap (λ b. cond {A = ℕ} b 1 0) fails)
  count-with f fails (g ∷ flows) =
      cond_both (nat_lt f.sid g.sid) (f ∷ g ∷ flows) (g ∷ with_flow f flows)
      (λ fs. count_by p fs ≡ count_by p (g ∷ flows))
      (λ low. omega (arith, count-cons p f (g ∷ flows), ap (λ b. cond {A = ℕ} b 1 0) fails))
      (λ high. omega (
        arith,
        count-cons p g (with_flow f flows),
        count-cons p g flows,
        count-with f fails flows,
      ))

  -- with the flow of an SID changed no more pass, where it passed if it does then
  pub count-changed : (sid : ℕ) (k : LiveFlow → LiveFlow) (flows : List LiveFlow)
      → AllByRecursion (λ f. p (k f) ≡ true → p f ≡ true) flows → count_by p (changed sid k flows) ≤ count_by p flows
  count-changed sid k [] all = omega arith
  count-changed sid k (f ∷ flows) all =
      let rest = count-changed sid k flows all.1 in
      let before = count-cons p f flows in
      cond_both (f.sid == sid) (k f) f (λ g. count_by p (g ∷ changed sid k flows) ≤ count_by p (f ∷ flows))
      (λ own. omega (arith, rest, before, count-cons p (k f) (changed sid k flows), implied-one (p (k f)) (p f) all.0))
      (λ other. omega (arith, rest, before, count-cons p f (changed sid k flows)))
