-- The grants per interval, and the starts of a frame, where a flow is taken out.
use Rattle.std.proofs.Common.{◌≡◌, sym, ap, ◌∙◌, subst, ℕ, ◌+◌, ◌<◌, ◌==◌, false, List, [], ◌∷◌, get_or}
use Rattle.std.proofs.Common.{find, length, Some, inl, inr, arith}
use Rattle.std.specs.List.{AllByRecursion}
use Rattle.std.proofs.lemmas.Bool.Decides.{nat_tests}
use Rattle.std.proofs.lemmas.List.{length-append}
use Rattle.std.proofs.lemmas.List.Sums.{sum_by-cons}
use Rattle.minislots.specs.declared.config.Config.{Config}
use Rattle.sched_calls.specs.FlowSpec.{grants_of}
use Rattle.periodic.specs.Placement.{Placed, spots_of, spots_in}
use Rattle.periodic.specs.Counts.{AreCounts, AreCounted, MayCount}
use Rattle.periodic.specs.Table.{placed_grants, without, Ascend}
use Rattle.periodic.proofs.Vacated.{found-cases, without-above}

-- the grants of the one that is taken out and those of the others are all
pub grants-without : (sid : ℕ) (f : Placed) (placed : List Placed) → find (λ g. g.sid == sid) placed ≡ Some f
    → Ascend placed → grants_of f.spec + placed_grants (without sid placed) ≡ placed_grants placed
grants-without sid f [] found up = absurd (cc)
grants-without sid f (g ∷ placed) found up =
    let own : Placed → ℕ = λ h. grants_of h.spec in
    let sum = sum_by-cons own g placed in
    elim (found-cases (g.sid == sid) g f (find (λ h. h.sid == sid) placed) found) [
      | inl first ↦ (
          let same : g.sid ≡ sid = grind (arith, nat_tests, first.0) in
          let left = without-above sid placed (subst (λ n. AllByRecursion (λ h. n < h.sid) placed) same up.0) in
          rw (first.0, left) (ap (λ (h : Placed). grants_of h.spec + placed_grants placed) (sym first.1) ∙ sym sum))
      | inr later ↦ (
          let rest = grants-without sid f placed later.1 up.1 in
          let kept = sum_by-cons own g (without sid placed) in
          rw later.0 (omega (arith, sum, rest, kept)))
    ]

-- the spots of a frame that the one that is taken out has and those of the others are all
pub spots-without : (c : Config) (k sid : ℕ) (f : Placed) (placed : List Placed)
    → find (λ g. g.sid == sid) placed ≡ Some f → Ascend placed
    → length (spots_of c k f) + length (spots_in c k (without sid placed)) ≡ length (spots_in c k placed)
spots-without c k sid f [] found up = absurd (cc)
spots-without c k sid f (g ∷ placed) found up =
    let all = length-append (spots_of c k g) (spots_in c k placed) in
    elim (found-cases (g.sid == sid) g f (find (λ h. h.sid == sid) placed) found) [
      | inl first ↦ (
          let same : g.sid ≡ sid = grind (arith, nat_tests, first.0) in
          let left = without-above sid placed (subst (λ n. AllByRecursion (λ h. n < h.sid) placed) same up.0) in
          rw (first.0, left) (omega (arith, all, ap (λ (h : Placed). length (spots_of c k h)) (sym first.1))))
      | inr later ↦ (
          let rest = spots-without c k sid f placed later.1 up.1 in
          let kept = length-append (spots_of c k g) (spots_in c k (without sid placed)) in
          rw later.0 (omega (arith, all, rest, kept)))
    ]

module _ (c : Config) (sid : ℕ) (f : Placed) (placed : List Placed) (counts : List ℕ) (are : AreCounts c placed counts)
    (found : find (λ g. g.sid == sid) placed ≡ Some f) (up : Ascend placed) where
  -- the starts of the one that is taken out are among those counted
  pub may-uncount : MayCount c f false counts
  may-uncount place within = omega (arith, are place within, spots-without c place sid f placed found up)

  -- without them the counts are those of the others
  pub counts-without : (new : List ℕ) → ((place : ℕ) → place < c.cycle
      → AreCounted false (get_or counts place 0) (length (spots_of c place f)) (get_or new place 0))
      → AreCounts c (without sid placed) new
  counts-without new fewer place within =
      let here : get_or new place 0 + length (spots_of c place f) ≡ get_or counts place 0 = fewer place within in
      omega (arith, here, are place within, spots-without c place sid f placed found up)
