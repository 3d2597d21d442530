-- Groups that have flows, one of them apart from the others.
use Rattle.std.proofs.Common.{◌≡◌, refl, sym, ap, ◌∙◌, ℕ, zero, suc, ◌<◌, Bool, false, not, ◌==◌, inl, inr, arith}
use Rattle.std.proofs.Common.{List, [], ◌∷◌, ◌++◌, length, get_or, set, filter}
use Rattle.std.specs.List.{AllByRecursion, remove}
use Rattle.std.proofs.lemmas.Bool.{cases_Bool}
use Rattle.std.proofs.lemmas.Bool.Decides.{nat_tests}
use Rattle.periodic.specs.declared.group.Group.{Group}
use Rattle.periodic.specs.declared.spots.PlacedFlow.{PlacedFlow}
use Rattle.periodic.specs.Groups.{flows_in, HaveFlows}

module _ {X : Type 0} where
  -- what holds of each holds of all but one
  pub all-others : (P : X → Type 0) (xs : List X) (i : ℕ) → AllByRecursion P xs → AllByRecursion P (remove xs i)
  all-others P [] zero all = tt
  all-others P [] (suc i) all = tt
  all-others P (x ∷ xs) zero all = all.1
  all-others P (x ∷ xs) (suc i) all = (all.0, all-others P xs i all.1)

  -- and the other way round, where it holds of that one
  pub all-again : (P : X → Type 0) (xs : List X) (i : ℕ) (x : X) → x ≡ get_or xs i x → P x
      → AllByRecursion P (remove xs i) → AllByRecursion P xs
  all-again P [] i x is here all = tt
  all-again P (y ∷ xs) zero x is here all = (rw (← is) here, all)
  all-again P (y ∷ xs) (suc i) x is here all = (all.0, all-again P xs i x is here all.1)

  -- or of what stands in its place
  pub all-placed : (P : X → Type 0) (xs : List X) (i : ℕ) (x : X) → P x → AllByRecursion P (remove xs i)
      → AllByRecursion P (set xs i x)
  all-placed P [] i x here all = tt
  all-placed P (y ∷ xs) zero x here all = (here, all)
  all-placed P (y ∷ xs) (suc i) x here all = (all.0, all-placed P xs i x here all.1)

  -- whatever stands in the place of one, the others are the same
  pub remove-set : (xs : List X) (i : ℕ) (x : X) → remove (set xs i x) i ≡ remove xs i
  remove-set [] i x = refl
  remove-set (y ∷ xs) zero x = refl
  remove-set (y ∷ xs) (suc i) x = ap (λ ys. y ∷ ys) (remove-set xs i x)

  -- all but the last of them
  pub remove-last : (xs : List X) (x : X) → remove (xs ++ x ∷ []) (length xs) ≡ xs
  remove-last [] x = refl
  remove-last (y ∷ xs) x = ap (λ ys. y ∷ ys) (remove-last xs x)

-- without a group that has no flow the flows are the same
pub flows-without : (groups : List Group) (i : ℕ) (g : Group) → i < length groups → g ≡ get_or groups i g
    → g.flows.items ≡ [] → flows_in (remove groups i) ≡ flows_in groups
flows-without [] i g within is none = absurd (omega (arith, within))
flows-without (x ∷ groups) zero g within is none =
    sym (ap (λ fs. fs ++ flows_in groups) (ap (λ (h : Group). h.flows.items) (sym is) ∙ none))
flows-without (x ∷ groups) (suc i) g within is none =
    ap (λ fs. x.flows.items ++ fs) (flows-without groups i g (omega (arith, within)) is none)

-- whether a group has flows
abbrev pub has_flows : Group → Bool
has_flows g = not (length g.flows.items == 0)

pub none-of : (flows : List PlacedFlow) → length flows ≡ 0 → flows ≡ []
none-of [] long = refl
none-of (f ∷ flows) long = absurd (omega (arith, long))

none-here : (g : Group) → has_flows g ≡ false → g.flows.items ≡ []
none-here g none =
    let long : length g.flows.items ≡ 0 = grind (arith, nat_tests, none) in none-of g.flows.items long

-- with the groups that have flows alone the flows are the same
pub flows-filled : (groups : List Group) → flows_in (filter has_flows groups) ≡ flows_in groups
flows-filled [] = refl
flows-filled (g ∷ groups) = elim (cases_Bool (has_flows g)) [
  | inl some ↦ rw some (ap (λ fs. g.flows.items ++ fs) (flows-filled groups))
  | inr none ↦ rw none (flows-filled groups ∙ sym (ap (λ fs. fs ++ flows_in groups) (none-here g none)))
]

-- and each has one
pub filled-all : (groups : List Group) → HaveFlows (filter has_flows groups)
filled-all [] = tt
filled-all (g ∷ groups) = elim (cases_Bool (has_flows g)) [
  | inl some ↦ (
      let here : 0 < length g.flows.items = grind (arith, nat_tests, some) in
      rw some (here, filled-all groups))
  | inr none ↦ rw none (filled-all groups)
]
