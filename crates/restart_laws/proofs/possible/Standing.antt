-- A placed flow that is found under its SID stands there among the others, and so does one in its place.
use Rattle.std.proofs.Common.{◌≡◌, refl, sym, ap, ◌∙◌, subst, ℕ, ◌<◌, ◌==◌, nat_lt, Bool, true, false, List, []}
use Rattle.std.proofs.Common.{◌∷◌, find, ◌++◌, cond, not, Some, inl, inr, arith}
use Rattle.std.specs.List.{AllByRecursion}
use Rattle.std.proofs.lemmas.Bool.Decides.{nat_tests}
use Rattle.minislots.specs.declared.config.Config.{Config}
use Rattle.sched_calls.proofs.Insertion.{all-put_in, ascends-put_in}
use Rattle.flow_book.proofs.Places.{all-found}
use Rattle.periodic.specs.Placement.{Placed, spots_of, spots_in}
use Rattle.periodic.specs.Table.{placed_grants, with_placed, without, Ascend, IsSoundPlaced, AreSound}
use Rattle.periodic.proofs.Adding.{grants-with}
use Rattle.periodic.proofs.Among.{StandsAmong, gone}
use Rattle.periodic.proofs.Kept.{TakesAlike}
use Rattle.periodic.proofs.Removing.{sound-filter}
use Rattle.periodic.proofs.Vacated.{found-cases, without-above}

with-first : (f : Placed) (placed : List Placed) → AllByRecursion (λ g. f.sid < g.sid) placed
    → with_placed f placed ≡ f ∷ placed
with-first f [] above = refl
with-first f (g ∷ placed) above = let low : nat_lt f.sid g.sid ≡ true = grind (arith, nat_tests, above.0) in rw low refl

own-sid : (sid : ℕ) (f : Placed) (placed : List Placed) → find (λ g. g.sid == sid) placed ≡ Some f → f.sid ≡ sid
own-sid sid f [] found = absurd (cc)
own-sid sid f (g ∷ placed) found = elim (found-cases (g.sid == sid) g f (find (λ h. h.sid == sid) placed) found) [
  | inl here ↦ (let same : g.sid ≡ sid = grind (arith, nat_tests, here.0) in
      ap (λ (h : Placed). h.sid) (sym here.1) ∙ same)
  | inr later ↦ own-sid sid f placed later.1
]

back-in : (sid : ℕ) (f : Placed) (placed : List Placed) → Ascend placed → find (λ g. g.sid == sid) placed ≡ Some f
    → placed ≡ with_placed f (without sid placed)
back-in sid f [] up found = absurd (cc)
back-in sid f (g ∷ placed) up found = elim (found-cases (g.sid == sid) g f (find (λ h. h.sid == sid) placed) found) [
  | inl here ↦ (
      let same : g.sid ≡ sid = grind (arith, nat_tests, here.0) in
      let left = without-above sid placed (subst (λ n. AllByRecursion (λ h. n < h.sid) placed) same up.0) in
      let put = with-first f placed (subst (λ (h : Placed). AllByRecursion (λ k. h.sid < k.sid) placed) here.1 up.0) in
      rw (here.0, left) (ap (λ h. h ∷ placed) here.1 ∙ sym put))
  | inr later ↦ (
      let behind : g.sid < f.sid = all-found (λ h. g.sid < h.sid) (λ h. h.sid == sid) placed f up.0 later.1 in
      let high : nat_lt f.sid g.sid ≡ false = grind (arith, nat_tests) in
      rw (later.0, high) (ap (λ rest. g ∷ rest) (back-in sid f placed up.1 later.1)))
]

-- it is put in where it stood
pub stands-among : (sid : ℕ) (f : Placed) (placed : List Placed) → Ascend placed
    → find (λ g. g.sid == sid) placed ≡ Some f → StandsAmong sid f placed
stands-among sid f placed up found =
    record { own = own-sid sid f placed found; found = found; back = back-in sid f placed up found }

module _ (c : Config) (sid : ℕ) (f q : Placed) (placed : List Placed) (alike : TakesAlike c f q)
    (stands : StandsAmong sid f placed) where
  spots-put : (k : ℕ) (others : List Placed)
      → spots_in c k (with_placed q others) ≡ spots_in c k (with_placed f others)
  spots-put k [] = ap (λ ss. ss ++ []) (alike.spots k)
  spots-put k (g ∷ others) =
      let same : nat_lt q.sid g.sid ≡ nat_lt f.sid g.sid = rw alike.own refl in
      rw same (by-test (nat_lt f.sid g.sid) (spots-put k others))
    where
      by-test : (b : Bool) → spots_in c k (with_placed q others) ≡ spots_in c k (with_placed f others)
          → spots_in c k (cond b (q ∷ g ∷ others) (g ∷ with_placed q others))
          ≡ spots_in c k (cond b (f ∷ g ∷ others) (g ∷ with_placed f others))
      by-test true rest = ap (λ ss. ss ++ spots_in c k (g ∷ others)) (alike.spots k)
      by-test false rest = ap (λ ss. spots_of c k g ++ ss) rest

  spots-instead : (k : ℕ) → spots_in c k (with_placed q (without sid placed)) ≡ spots_in c k placed
  spots-instead k = spots-put k (without sid placed) ∙ ap (spots_in c k) (sym stands.back)

  -- a table with a flow in the place of one that takes the same is sound
  pub sound-instead : AreSound c placed → IsSoundPlaced c q → AreSound c (with_placed q (without sid placed))
  sound-instead are sound =
      let left = sound-filter c (λ g. not (g.sid == sid)) placed are in
      record {
        ascending = ascends-put_in (λ g. g.sid) q (without sid placed) (rw (alike.own, stands.own) (gone sid placed))
            left.ascending;
        most = omega (
          arith,
          grants-with q (without sid placed),
          grants-with f (without sid placed),
          alike.grants,
          ap placed_grants stands.back,
          are.most,
        );
        each = all-put_in (λ g. g.sid) (IsSoundPlaced c) q (without sid placed) sound left.each;
        apart = λ k. rw (spots-instead k) (are.apart k);
        few = λ k. rw (spots-instead k) (are.few k);
      }
