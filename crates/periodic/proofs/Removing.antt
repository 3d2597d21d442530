-- One of the placed flows is taken out.
use Rattle.std.proofs.Common.{ℕ, ◌≤◌, Bool, List, [], ◌∷◌, filter, arith}
use Rattle.std.specs.List.{AllByRecursion}
use Rattle.std.proofs.lemmas.Bool.{cond_both}
use Rattle.std.proofs.lemmas.List.Sums.{sum_by-cons}
use Rattle.minislots.specs.declared.config.Config.{Config}
use Rattle.sched_calls.specs.FlowSpec.{grants_of}
use Rattle.sched_calls.proofs.Removal.{all-filter, ascends-filter}
use Rattle.periodic.specs.declared.placement.Spot.{Spot}
use Rattle.periodic.specs.Placement.{Placed, spots_of, spots_in}
use Rattle.periodic.specs.Table.{placed_grants, IsApart, AreApart, IsSoundPlaced, AreSound}
use Rattle.periodic.proofs.Counting.{spots-fewer}
use Rattle.periodic.proofs.Joined.{all-append, all-left, all-right, all-weaker}
use Rattle.periodic.proofs.Joined.{apart-append, apart-left, apart-right, apart-between}

-- what is so of the spots of a table is so of those of the flows that are left
pub all-spots-filter : (c : Config) (k : ℕ) (P : Spot → Type 0) (p : Placed → Bool) (placed : List Placed)
    → AllByRecursion P (spots_in c k placed) → AllByRecursion P (spots_in c k (filter p placed))
all-spots-filter c k P p [] all = tt
all-spots-filter c k P p (f ∷ placed) all =
    let rest = all-spots-filter c k P p placed (all-right P (spots_of c k f) (spots_in c k placed) all) in
    cond_both (p f) (f ∷ filter p placed) (filter p placed) (λ fs. AllByRecursion P (spots_in c k fs))
    (λ kept. all-append P (spots_of c k f) (spots_in c k (filter p placed))
    (all-left P (spots_of c k f) (spots_in c k placed) all) rest) (λ out. rest)

apart-filter : (c : Config) (k : ℕ) (p : Placed → Bool) (placed : List Placed) → AreApart (spots_in c k placed)
    → AreApart (spots_in c k (filter p placed))
apart-filter c k p [] apart = tt
apart-filter c k p (f ∷ placed) apart =
    let rest = apart-filter c k p placed (apart-right (spots_of c k f) (spots_in c k placed) apart) in
    cond_both (p f) (f ∷ filter p placed) (filter p placed) (λ fs. AreApart (spots_in c k fs))
    (λ kept. apart-append (spots_of c k f) (spots_in c k (filter p placed))
    (apart-left (spots_of c k f) (spots_in c k placed) apart) rest
    (all-weaker (λ s. AllByRecursion (IsApart s) (spots_in c k placed))
    (λ s. AllByRecursion (IsApart s) (spots_in c k (filter p placed)))
    (λ s all. all-spots-filter c k (IsApart s) p placed all) (spots_of c k f)
    (apart-between (spots_of c k f) (spots_in c k placed) apart)))
    (λ out. rest)

-- the grants per interval are no more than before
fewer-grants : (p : Placed → Bool) (placed : List Placed) → placed_grants (filter p placed) ≤ placed_grants placed
fewer-grants p [] = omega arith
fewer-grants p (f ∷ placed) =
    let own : Placed → ℕ = λ g. grants_of g.spec in
    let fewer = fewer-grants p placed in
    let all = sum_by-cons own f placed in
    cond_both (p f) (f ∷ filter p placed) (filter p placed) (λ fs. placed_grants fs ≤ placed_grants (f ∷ placed))
    (λ kept. let left = sum_by-cons own f (filter p placed) in omega (arith, fewer, all, left))
    (λ out. omega (arith, fewer, all))

-- the flows that are left are sound
pub sound-filter : (c : Config) (p : Placed → Bool) (placed : List Placed) → AreSound c placed
    → AreSound c (filter p placed)
sound-filter c p placed are = record {
  ascending = ascends-filter (λ f. f.sid) p placed are.ascending;
  most = (let fewer = fewer-grants p placed in omega (arith, fewer, are.most));
  each = all-filter (IsSoundPlaced c) p placed are.each;
  apart = λ k. apart-filter c k p placed (are.apart k);
  few = λ k. (let fewer = spots-fewer c k p placed in omega (arith, fewer, are.few k));
}
