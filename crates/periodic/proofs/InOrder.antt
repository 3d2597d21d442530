-- Flows in order of SID, whatever the order in which they were put in.
use Rattle.std.proofs.Common.{◌≡◌, ◌≢◌, refl, sym, ap, ◌∙◌, ℕ, ◌<◌, ◌≤◌, false, ◌==◌, nat_lt}
use Rattle.std.proofs.Common.{List, [], ◌∷◌, ◌++◌, append_assoc, find, length, Some, inl, inr, arith}
use Rattle.std.specs.List.{AllByRecursion, flat_map}
use Rattle.std.specs.List.Sorted.{IsPermutation}
use Rattle.std.proofs.lemmas.Bool.{cases_Bool, cond_both, eq-eqb, ne_eqb}
use Rattle.std.proofs.lemmas.Bool.Decides.{nat_tests}
use Rattle.std.proofs.lemmas.List.Sorted.{IsPermutation-refl, IsPermutation-trans, IsPermutation-append_comm}
use Rattle.std.proofs.lemmas.List.Sorted.{IsPermutation-append_left, IsPermutation-append_right}
use Rattle.std.proofs.lemmas.List.Sums.{sum_by-cons}
use Rattle.minislots.specs.declared.config.Config.{Config}
use Rattle.minislots.specs.Config.{IsLawful}
use Rattle.sched_calls.specs.FlowSpec.{grants_of}
use Rattle.periodic.specs.Placement.{Placed}
use Rattle.periodic.specs.Table.{placed_grants, IsNotPlaced, with_placed, without, Ascend, IsSoundPlaced}
use Rattle.periodic.specs.Groups.{in_order}
use Rattle.periodic.proofs.Parameters.{places_of}

-- two flows may be put in in either order
put-two : (f g : Placed) (placed : List Placed) → f.sid ≢ g.sid
    → with_placed g (with_placed f placed) ≡ with_placed f (with_placed g placed)
put-two f g [] differ = grind (arith, nat_tests)
put-two f g (h ∷ placed) differ = grind (arith, nat_tests, put-two f g placed differ)

-- none of these flows has the SID
abbrev pub HaveNot : ℕ → List Placed → Type 0
HaveNot sid placed = AllByRecursion (λ f. f.sid ≢ sid) placed

-- a flow among others is put in among them
pub in_order-with : (f : Placed) (before after : List Placed) → HaveNot f.sid before
    → in_order (before ++ f ∷ after) ≡ with_placed f (in_order (before ++ after))
in_order-with f [] after none = refl
in_order-with f (g ∷ before) after none =
    ap (with_placed g) (in_order-with f before after none.1)
    ∙ put-two f g (in_order (before ++ after)) (λ e. none.0 (sym e))

all-but : (P : Placed → Type 0) (f : Placed) (placed : List Placed) → AllByRecursion P (with_placed f placed)
    → P f × AllByRecursion P placed
all-but P f [] all = (all.0, tt)
all-but P f (g ∷ placed) all =
    cond_both (nat_lt f.sid g.sid) (f ∷ g ∷ placed) (g ∷ with_placed f placed)
    (λ fs. AllByRecursion P fs → P f × AllByRecursion P (g ∷ placed))
    (λ low every. (every.0, every.1))
    (λ high every. let rest = all-but P f placed every.1 in (rest.0, (every.0, rest.1)))
    all

-- what holds of each in order holds of each
pub all-in_order : (P : Placed → Type 0) (flows : List Placed) → AllByRecursion P (in_order flows)
    → AllByRecursion P flows
all-in_order P [] all = tt
all-in_order P (f ∷ flows) all =
    let both = all-but P f (in_order flows) all in (both.0, all-in_order P flows both.1)

above : (sid : ℕ) (others : List Placed) → AllByRecursion (λ h. sid < h.sid) others → HaveNot sid others
above sid [] all = tt
above sid (h ∷ others) all = ((λ e. absurd (omega (arith, e, all.0))), above sid others all.1)

all-middle : (P : Placed → Type 0) (f : Placed) (before after : List Placed)
    → AllByRecursion P (before ++ f ∷ after) → P f
all-middle P f [] after all = all.0
all-middle P f (g ∷ before) after all = all-middle P f before after all.1

-- of ascending SIDs no other is that of a flow that was put in
ascend-but : (f : Placed) (placed : List Placed) → Ascend (with_placed f placed)
    → HaveNot f.sid placed × Ascend placed
ascend-but f [] up = (tt, tt)
ascend-but f (g ∷ placed) up =
    cond_both (nat_lt f.sid g.sid) (f ∷ g ∷ placed) (g ∷ with_placed f placed)
    (λ fs. Ascend fs → HaveNot f.sid (g ∷ placed) × Ascend (g ∷ placed))
    (λ low every. (above f.sid (g ∷ placed) every.0, every.1))
    (λ high every.
    let rest = ascend-but f placed every.1 in
    let higher = all-but (λ h. g.sid < h.sid) f placed every.0 in
    ((λ e. absurd (omega (arith, e, higher.0)), rest.0), (higher.1, rest.1)))
    up

-- so each of the others has another SID, those before it and those behind it
pub others-differ : (f : Placed) (before after : List Placed) → Ascend (in_order (before ++ f ∷ after))
    → HaveNot f.sid before × HaveNot f.sid (before ++ after)
others-differ f [] after up =
    let differ = ascend-but f (in_order after) up in (tt, all-in_order (λ g. g.sid ≢ f.sid) after differ.0)
others-differ f (g ∷ before) after up =
    let differ = ascend-but g (in_order (before ++ f ∷ after)) up in
    let rest = others-differ f before after differ.1 in
    let own = all-middle (λ h. h.sid ≢ g.sid) f before after
    (all-in_order (λ h. h.sid ≢ g.sid) (before ++ f ∷ after) differ.0) in
    ((λ e. own (sym e), rest.0), (λ e. own (sym e), rest.1))

-- where none is found of an SID all have others
pub not-found : (sid : ℕ) (placed : List Placed) → IsNotPlaced sid placed → HaveNot sid placed
not-found sid [] none = tt
not-found sid (f ∷ placed) none = elim (cases_Bool (f.sid == sid)) [
  | inl same ↦ (let some = rw same at none in absurd (cc))
  | inr other ↦ ((λ e. grind (arith, nat_tests, other, e)), not-found sid placed (rw other at none))
]

-- and the other way round
pub found-none : (sid : ℕ) (placed : List Placed) → HaveNot sid placed → IsNotPlaced sid placed
found-none sid [] none = refl
found-none sid (f ∷ placed) none =
    let other : (f.sid == sid) ≡ false = ne_eqb f.sid sid none.0 in rw other (found-none sid placed none.1)

without-none : (sid : ℕ) (placed : List Placed) → HaveNot sid placed → without sid placed ≡ placed
without-none sid [] none = refl
without-none sid (f ∷ placed) none =
    let other : (f.sid == sid) ≡ false = ne_eqb f.sid sid none.0 in
    rw other (ap (λ fs. f ∷ fs) (without-none sid placed none.1))

-- a flow that was put in among others of other SIDs is found, and without it they are left
pub found-with : (sid : ℕ) (f : Placed) (placed : List Placed) → f.sid ≡ sid → HaveNot sid placed
    → find (λ g. g.sid == sid) (with_placed f placed) ≡ Some f
found-with sid f [] is none = rw (eq-eqb f.sid sid is) refl
found-with sid f (g ∷ placed) is none =
    let other : (g.sid == sid) ≡ false = ne_eqb g.sid sid none.0 in
    cond_both (nat_lt f.sid g.sid) (f ∷ g ∷ placed) (g ∷ with_placed f placed)
    (λ fs. find (λ h. h.sid == sid) fs ≡ Some f)
    (λ low. rw (eq-eqb f.sid sid is) refl)
    (λ high. rw other (found-with sid f placed is none.1))

pub without-with : (sid : ℕ) (f : Placed) (placed : List Placed) → f.sid ≡ sid → HaveNot sid placed
    → without sid (with_placed f placed) ≡ placed
without-with sid f [] is none = rw (eq-eqb f.sid sid is) refl
without-with sid f (g ∷ placed) is none =
    let other : (g.sid == sid) ≡ false = ne_eqb g.sid sid none.0 in
    cond_both (nat_lt f.sid g.sid) (f ∷ g ∷ placed) (g ∷ with_placed f placed)
    (λ fs. without sid fs ≡ g ∷ placed)
    (λ low. rw (eq-eqb f.sid sid is) (without-none sid (g ∷ placed) none))
    (λ high. rw other (ap (λ fs. g ∷ fs) (without-with sid f placed is none.1)))

module _ {X : Type 0} (of : Placed → List X) where
  -- what each flow has, with a flow more, is its own more, in another order
  with-permuted : (f : Placed) (placed : List Placed)
      → IsPermutation (flat_map of (with_placed f placed)) (of f ++ flat_map of placed)
  with-permuted f [] = IsPermutation-refl (of f ++ [])
  with-permuted f (g ∷ placed) =
      let mine = of f in
      let first = of g in
      let rest = flat_map of placed in
      cond_both (nat_lt f.sid g.sid) (f ∷ g ∷ placed) (g ∷ with_placed f placed)
      (λ fs. IsPermutation (flat_map of fs) (mine ++ (first ++ rest)))
      (λ low. IsPermutation-refl (mine ++ (first ++ rest)))
      (λ high. IsPermutation-trans (first ++ flat_map of (with_placed f placed)) (first ++ (mine ++ rest))
      (mine ++ (first ++ rest))
      (IsPermutation-append_right first (flat_map of (with_placed f placed)) (mine ++ rest) (with-permuted f placed))
      (rw (← append_assoc first mine rest, ← append_assoc mine first rest)
      (IsPermutation-append_left rest (first ++ mine) (mine ++ first) (IsPermutation-append_comm first mine))))

  -- flows in order of SID have the same, in another order
  pub order-permuted : (flows : List Placed) → IsPermutation (flat_map of (in_order flows)) (flat_map of flows)
  order-permuted [] = IsPermutation-refl []
  order-permuted (f ∷ flows) =
      IsPermutation-trans (flat_map of (with_placed f (in_order flows))) (of f ++ flat_map of (in_order flows))
      (of f ++ flat_map of flows) (with-permuted f (in_order flows))
      (IsPermutation-append_right (of f) (flat_map of (in_order flows)) (flat_map of flows) (order-permuted flows))

-- there are no more placed flows than grants per interval
pub flows-most : (c : Config) (placed : List Placed) → IsLawful c → AllByRecursion (IsSoundPlaced c) placed
    → length placed ≤ placed_grants placed
flows-most c [] lawful each = omega arith
flows-most c (f ∷ placed) lawful each =
    let some = (places_of c f.spec lawful each.0.periodic each.0.no_fault).grants_positive in
    omega (
      arith,
      some,
      flows-most c placed lawful each.1,
      sum_by-cons (λ (g : Placed). grants_of g.spec) f placed,
    )
