-- Groups of placed flows, one after another.
use Rattle.std.proofs.Common.{◌≡◌, refl, sym, ap, ◌∙◌, subst, ℕ, ◌+◌, ◌%◌, ◌<◌, ◌≤◌, Bool, false, List, [], ◌∷◌, ◌++◌}
use Rattle.std.proofs.Common.{length, map, get_or, set, take, position, None, Some, ◌==◌, arith}
use Rattle.std.specs.List.{AllByRecursion, flat_map, position_or_len}
use Rattle.std.proofs.lemmas.Bool.Decides.{nat_tests}
use Rattle.std.proofs.lemmas.Grind.{flat_map-append, common_steps}
use Rattle.std.proofs.lemmas.List.{map-append, take_more, get_or_default}
use Rattle.std.proofs.lemmas.List.Elements.{All-from_recursion, recursion_from_All}
use Rattle.std.proofs.lemmas.List.Quantifiers.{position-Some}
use Rattle.std.proofs.lemmas.List.Sums.{fails_before_first}
use Rattle.minislots.specs.declared.config.Config.{Config}
use Rattle.sched_calls.proofs.Insertion.{all-set}
use Rattle.periodic.specs.declared.group.Group.{Group}
use Rattle.periodic.specs.declared.placement.Spot.{Spot}
use Rattle.periodic.specs.declared.spots.PlacedFlow.{PlacedFlow}
use Rattle.periodic.specs.Placement.{Placed, starts_in, spot_at, spots_of, due_of, due_in}
use Rattle.periodic.specs.Fields.{placed_of}
use Rattle.periodic.specs.Groups.{flows_in, IsSoundMember, IsSoundGroup, AreSoundGroups, IsFlowAt}
use Rattle.periodic.proofs.Counting.{no-starts}
use Rattle.periodic.proofs.Joined.{all-append}
use Rattle.periodic.proofs.Resting.{few-due}

-- a flow of a sound group is sound
pub member-at : (c : Config) (g : Group) (given : List PlacedFlow) (i : ℕ) (f : PlacedFlow) → given ≡ g.flows.items
    → i < length given → f ≡ get_or given i f → IsSoundGroup c g → IsSoundMember c g.interval g.phase f
member-at c g given i f same within is sound =
    rw is (All-from_recursion (IsSoundMember c g.interval g.phase) given (rw same sound.each) i f within)

-- one of sound groups is sound
pub group-at : (c : Config) (groups : List Group) (i : ℕ) (g : Group) → i < length groups → g ≡ get_or groups i g
    → AreSoundGroups c groups → IsSoundGroup c g
group-at c groups i g within is sound =
    subst (IsSoundGroup c) (sym is) (All-from_recursion (IsSoundGroup c) groups sound i g within)

-- groups stay sound where one has the same flows
pub sound-kept : (c : Config) (groups : List Group) (i : ℕ) (g h : Group) → i < length groups → g ≡ get_or groups i g
    → h.interval ≡ g.interval → h.phase ≡ g.phase → h.flows.items ≡ g.flows.items → AreSoundGroups c groups
    → AreSoundGroups c (set groups i h)
sound-kept c groups i g h within is frames first flows sound =
    let before = group-at c groups i g within is sound in
    all-set (IsSoundGroup c) groups i h sound (record {
      some = omega (arith, frames, before.some);
      each = rw (frames, first, flows) before.each;
    })

-- where no place is found every one fails the test
pub none-passes : {X : Type 0} (p : X → Bool) (xs : List X) → position p xs ≡ None
    → AllByRecursion (λ x. p x ≡ false) xs
none-passes p xs none =
    let past : length xs ≤ position_or_len p xs = grind (arith, common_steps) in
    recursion_from_All (λ x. p x ≡ false) xs (λ k d lt. fails_before_first p xs k d (omega arith))

found-within : {X : Type 0} (p : X → Bool) (xs : List X) (i : ℕ) → position p xs ≡ Some i → i < length xs
found-within p xs i found = grind (arith, common_steps)

-- the flow at the place that is found in a group stands there
pub flow-stands : (groups : List Group) (i : ℕ) (g : Group) (sid j : ℕ) → i < length groups → g ≡ get_or groups i g
    → position (λ f. f.sid == sid) g.flows.items ≡ Some j → IsFlowAt groups sid (i, j)
flow-stands groups i g sid j within is found = record {
  group = within;
  within = λ d.
      subst (λ (h : Group). j < length h.flows.items) (is ∙ get_or_default groups i g d within)
      (found-within (λ (f : PlacedFlow). f.sid == sid) g.flows.items j found);
  here = λ d f.
      let at = position-Some (λ (e : PlacedFlow). e.sid == sid) g.flows.items j f found in
      let same : (get_or g.flows.items j f).sid ≡ sid = grind (arith, nat_tests, at.1) in
      subst (λ (h : Group). (get_or h.flows.items j f).sid ≡ sid) (is ∙ get_or_default groups i g d within) same;
}

-- what holds of the flows of the first groups and of the next holds of those of one group more
pub all-more : (P : PlacedFlow → Type 0) (groups : List Group) (i : ℕ) (g : Group) → i < length groups
    → g ≡ get_or groups i g → AllByRecursion P (flows_in (take i groups)) → AllByRecursion P g.flows.items
    → AllByRecursion P (flows_in (take (i + 1) groups))
all-more P groups i g within is before here =
    let more : take (i + 1) groups ≡ take i groups ++ g ∷ [] =
    take_more groups i g within ∙ ap (λ (h : Group). take i groups ++ h ∷ []) (sym is) in
    rw (more, flat_map-append (λ (h : Group). h.flows.items) (take i groups) (g ∷ []))
    (all-append P (flows_in (take i groups)) (g.flows.items ++ []) before (all-append P g.flows.items [] here tt))

-- what the flows of a group are to have of frame k
abbrev pub due_here : Config → ℕ → Group → List Spot
due_here c k g = due_in c k (map placed_of g.flows.items)

-- the flows of the groups are to have what one group after the other is
pub due-grouped : (c : Config) (k : ℕ) (groups : List Group)
    → due_in c k (map placed_of (flows_in groups)) ≡ flat_map (due_here c k) groups
due-grouped c k [] = refl
due-grouped c k (g ∷ groups) =
    ap (due_in c k) (map-append placed_of g.flows.items (flows_in groups))
    ∙ flat_map-append (due_of c k) (map placed_of g.flows.items) (map placed_of (flows_in groups))
    ∙ ap (λ ss. due_here c k g ++ ss) (due-grouped c k groups)

empty-of : {X : Type 0} (xs : List X) → length xs ≤ 0 → xs ≡ []
empty-of [] few = refl
empty-of (x ∷ xs) few = absurd (omega (arith, few))

no-due : (c : Config) (place : ℕ) (f : Placed) → starts_in c f.spec f.placement place ≡ []
    → length (due_of c place f) ≤ length (spots_of c place f) → place ≡ place % c.cycle → due_of c place f ≡ []
no-due c place f none few here =
    let no : spots_of c place f ≡ [] =
    ap (λ n. map (spot_at c f) (starts_in c f.spec f.placement n)) (sym here) ∙ ap (map (spot_at c f)) none in
    empty-of (due_of c place f) (omega (arith, few, ap length no))

none-of : (c : Config) (place frames first : ℕ) (flows : List PlacedFlow) → (place % frames ≡ first → ⊥)
    → place ≡ place % c.cycle → AllByRecursion (IsSoundMember c frames first) flows
    → due_in c place (map placed_of flows) ≡ []
none-of c place frames first [] differ here each = refl
none-of c place frames first (f ∷ flows) differ here each =
    let member = each.0 in
    let no : starts_in c f.spec f.placement place ≡ [] = no-starts c f.spec f.placement place
    (λ e. differ (ap (λ n. place % n) (sym member.interval ∙ member.flow.times.interval)
    ∙ e ∙ sym member.flow.times.phase ∙ member.phase)) in
    ap (λ ss. ss ++ due_in c place (map placed_of flows))
    (no-due c place (placed_of f) no (few-due c place (placed_of f)) here)
    ∙ none-of c place frames first flows differ here each.1

-- a group is to have nothing of a frame that is none of its phase
pub due-none : (c : Config) (place : ℕ) (g : Group) → (place % g.interval ≡ g.phase → ⊥)
    → place ≡ place % c.cycle → IsSoundGroup c g → due_here c place g ≡ []
due-none c place g differ here sound =
    none-of c place g.interval g.phase g.flows.items differ here sound.each
