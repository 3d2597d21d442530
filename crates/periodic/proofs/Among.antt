-- One flow among the flows of groups: put into one of them, and taken out of it.
use Rattle.std.proofs.Common.{◌≡◌, ◌≢◌, refl, sym, ap, ◌∙◌, ℕ, zero, suc, ◌+◌, ◌<◌, Bool, true, false, not, ◌==◌}
use Rattle.std.proofs.Common.{List, [], ◌∷◌, ◌++◌, append_assoc, length, map, get_or, set, take, drop, find, Some}
use Rattle.std.proofs.Common.{if◌then◌else◌, arith}
use Rattle.std.specs.List.{AllByRecursion, remove}
use Rattle.std.proofs.lemmas.Bool.{eq-eqb}
use Rattle.std.proofs.lemmas.List.{map-append, take-append-drop, drop_more}
use Rattle.sched_calls.proofs.Insertion.{all-put_in, length-put_in}
use Rattle.periodic.specs.declared.group.Group.{Group}
use Rattle.periodic.specs.declared.spots.PlacedFlow.{PlacedFlow}
use Rattle.periodic.specs.Placement.{Placed}
use Rattle.periodic.specs.Table.{IsPlaced, IsNotPlaced, with_placed, without, Ascend}
use Rattle.periodic.specs.Fields.{placed_of}
use Rattle.periodic.specs.Groups.{flows_in, in_order, HasOneMore}
use Rattle.periodic.proofs.Joined.{all-left}
use Rattle.periodic.proofs.InOrder.{HaveNot, in_order-with, all-in_order, others-differ, not-found, found-none}
use Rattle.periodic.proofs.InOrder.{found-with, without-with}

-- A flow of this SID stands among the placed flows: it is found, and put in beside the others it stands where it stood
pub record StandsAmong (sid : ℕ) (f : Placed) (placed : List Placed) : Type 0 where
  pub own : f.sid ≡ sid
  pub found : find (λ g. g.sid == sid) placed ≡ Some f
  pub back : placed ≡ with_placed f (without sid placed)

gone-behind : (sid : ℕ) (g : Placed) (rest : List Placed) (b : Bool) → (g.sid == sid) ≡ b → IsNotPlaced sid rest
    → IsNotPlaced sid (if not b then g ∷ rest else rest)
gone-behind sid g rest true test none = none
gone-behind sid g rest false test none = rw test none

-- no flow of the SID is among the others
pub gone : (sid : ℕ) (placed : List Placed) → IsNotPlaced sid (without sid placed)
gone sid [] = refl
gone sid (g ∷ placed) = gone-behind sid g (without sid placed) (g.sid == sid) refl (gone sid placed)

-- The flows of a group stand between those of other groups, and so do the flows that another has in its place
record HasParts (groups : List Group) (i : ℕ) (g h : Group) : Type 0 where
  before : List PlacedFlow
  after : List PlacedFlow
  old : flows_in groups ≡ before ++ (g.flows.items ++ after)
  new : flows_in (set groups i h) ≡ before ++ (h.flows.items ++ after)

parts-at : (groups : List Group) (i : ℕ) (g h : Group) → i < length groups → g ≡ get_or groups i g
    → HasParts groups i g h
parts-at [] i g h within is = absurd (omega (arith, within))
parts-at (x ∷ groups) zero g h within is = record {
  before = [];
  after = flows_in groups;
  old = ap (λ (y : Group). y.flows.items ++ flows_in groups) (sym is);
  new = refl;
}
parts-at (x ∷ groups) (suc i) g h within is =
    let rest = parts-at groups i g h (omega (arith, within)) is in
    record {
      before = x.flows.items ++ rest.before;
      after = rest.after;
      old = ap (λ fs. x.flows.items ++ fs) rest.old
          ∙ sym (append_assoc x.flows.items rest.before (g.flows.items ++ rest.after));
      new = ap (λ fs. x.flows.items ++ fs) rest.new
          ∙ sym (append_assoc x.flows.items rest.before (h.flows.items ++ rest.after));
    }

-- where a group has the same flows, they are all the same
pub flows-kept : (groups : List Group) (i : ℕ) (g h : Group) → i < length groups → g ≡ get_or groups i g
    → h.flows.items ≡ g.flows.items → flows_in (set groups i h) ≡ flows_in groups
flows-kept groups i g h within is same =
    let parts = parts-at groups i g h within is in
    parts.new ∙ ap (λ fs. parts.before ++ (fs ++ parts.after)) same ∙ sym parts.old

module _ (groups : List Group) (i : ℕ) (g h : Group) (within : i < length groups) (is : g ≡ get_or groups i g)
    (f : PlacedFlow) where
  -- a group that gets a flow behind its own
  pub flow-put : h.flows.items ≡ g.flows.items ++ f ∷ [] → HasOneMore f (flows_in groups) (flows_in (set groups i h))
  flow-put more =
      let parts = parts-at groups i g h within is in
      record {
        before = parts.before ++ g.flows.items;
        after = parts.after;
        less = parts.old ∙ sym (append_assoc parts.before g.flows.items parts.after);
        more = parts.new ∙ ap (λ fs. parts.before ++ (fs ++ parts.after)) more
            ∙ ap (λ fs. parts.before ++ fs) (append_assoc g.flows.items (f ∷ []) parts.after)
            ∙ sym (append_assoc parts.before g.flows.items (f ∷ parts.after));
      }

  split-at : (j : ℕ) → j < length g.flows.items → f ≡ get_or g.flows.items j f
      → g.flows.items ≡ take j g.flows.items ++ f ∷ drop (j + 1) g.flows.items
  split-at j low at =
      let items = g.flows.items in
      sym (take-append-drop j items)
      ∙ ap (λ fs. take j items ++ fs)
      (drop_more items j f low ∙ ap (λ (e : PlacedFlow). e ∷ drop (j + 1) items) (sym at))

  -- a group that loses the flow at a place
  pub flow-out : (j : ℕ) → j < length g.flows.items → f ≡ get_or g.flows.items j f
      → h.flows.items ≡ remove g.flows.items j → HasOneMore f (flows_in (set groups i h)) (flows_in groups)
  flow-out j low at less =
      let parts = parts-at groups i g h within is in
      let items = g.flows.items in
      let front = take j items in
      let back = drop (j + 1) items in
      let next : suc j ≡ j + 1 = omega arith in
      record {
        before = parts.before ++ front;
        after = back ++ parts.after;
        less = parts.new ∙ ap (λ fs. parts.before ++ (fs ++ parts.after))
            (less ∙ ap (λ n. front ++ drop n items) next)
            ∙ ap (λ fs. parts.before ++ fs) (append_assoc front back parts.after)
            ∙ sym (append_assoc parts.before front (back ++ parts.after));
        more = parts.old ∙ ap (λ fs. parts.before ++ (fs ++ parts.after)) (split-at j low at)
            ∙ ap (λ fs. parts.before ++ fs) (append_assoc front (f ∷ back) parts.after)
            ∙ sym (append_assoc parts.before front (f ∷ (back ++ parts.after)));
      }

-- a flow of a group stands among those of all
pub flow-among : (groups : List Group) (i : ℕ) (g : Group) (f : PlacedFlow) (j : ℕ) → i < length groups
    → g ≡ get_or groups i g → j < length g.flows.items → f ≡ get_or g.flows.items j f
    → (others : List PlacedFlow) × HasOneMore f others (flows_in groups)
flow-among groups i g f j within is low at =
    let parts = parts-at groups i g g within is in
    let items = g.flows.items in
    let front = take j items in
    let back = drop (j + 1) items in (
      (parts.before ++ front) ++ (back ++ parts.after),
      record {
        before = parts.before ++ front;
        after = back ++ parts.after;
        less = refl;
        more = parts.old
            ∙ ap (λ fs. parts.before ++ (fs ++ parts.after)) (split-at groups i g g within is f j low at)
            ∙ ap (λ fs. parts.before ++ fs) (append_assoc front (f ∷ back) parts.after)
            ∙ sym (append_assoc parts.before front (f ∷ (back ++ parts.after)));
      },
    )

-- what holds of each flow holds of each in order of SID
all-order : (P : Placed → Type 0) (flows : List Placed) → AllByRecursion P flows → AllByRecursion P (in_order flows)
all-order P [] all = tt
all-order P (f ∷ flows) all = all-put_in (λ (g : Placed). g.sid) P f (in_order flows) all.0 (all-order P flows all.1)

differ : (sid : ℕ) (flows : List PlacedFlow) → AllByRecursion (λ f. (f.sid == sid) ≡ false) flows
    → HaveNot sid (map placed_of flows)
differ sid [] none = tt
differ sid (f ∷ flows) none =
    ((λ e. let same = eq-eqb f.sid sid e in let both = sym same ∙ none.0 in absurd (cc)), differ sid flows none.1)

module _ (f : PlacedFlow) (others flows : List PlacedFlow) (one : HasOneMore f others flows) where
  abbrev front : List Placed
  front = map placed_of one.before

  abbrev back : List Placed
  back = map placed_of one.after

  others-are : map placed_of others ≡ front ++ back
  others-are = ap (map placed_of) one.less ∙ map-append placed_of one.before one.after

  flows-are : map placed_of flows ≡ front ++ placed_of f ∷ back
  flows-are = ap (map placed_of) one.more ∙ map-append placed_of one.before (f ∷ one.after)

  put-among : HaveNot f.sid front
      → in_order (map placed_of flows) ≡ with_placed (placed_of f) (in_order (map placed_of others))
  put-among none =
      ap in_order flows-are ∙ in_order-with (placed_of f) front back none
      ∙ ap (λ fs. with_placed (placed_of f) (in_order fs)) (sym others-are)

  -- with a flow of a new SID more it is put in, in order
  pub order-with : IsNotPlaced f.sid (in_order (map placed_of others))
      → in_order (map placed_of flows) ≡ with_placed (placed_of f) (in_order (map placed_of others))
  order-with new =
      let none = all-in_order (λ g. g.sid ≢ f.sid) (map placed_of others)
      (not-found f.sid (in_order (map placed_of others)) new) in
      put-among (all-left (λ g. g.sid ≢ f.sid) front back (rw others-are at none))

  others-not : Ascend (in_order (map placed_of flows)) → HaveNot f.sid (in_order (map placed_of others))
  others-not up =
      let differ = others-differ (placed_of f) front back (rw flows-are at up) in
      all-order (λ g. g.sid ≢ f.sid) (map placed_of others) (rw others-are differ.1)

  -- where the SIDs ascend, the flow is found, and without it the others are left
  pub order-found : (sid : ℕ) → f.sid ≡ sid → Ascend (in_order (map placed_of flows))
      → find (λ g. g.sid == sid) (in_order (map placed_of flows)) ≡ Some (placed_of f)
  order-found sid is up =
      let differ = others-differ (placed_of f) front back (rw flows-are at up) in
      rw (put-among differ.0, ← is)
      (found-with f.sid (placed_of f) (in_order (map placed_of others)) refl (others-not up))

  -- there is one more
  pub order-length : Ascend (in_order (map placed_of flows))
      → length (in_order (map placed_of flows)) ≡ suc (length (in_order (map placed_of others)))
  order-length up =
      let differ = others-differ (placed_of f) front back (rw flows-are at up) in
      ap length (put-among differ.0) ∙ length-put_in (λ g. g.sid) (placed_of f) (in_order (map placed_of others))

  pub order-without : (sid : ℕ) → f.sid ≡ sid → Ascend (in_order (map placed_of flows))
      → in_order (map placed_of others) ≡ without sid (in_order (map placed_of flows))
  order-without sid is up =
      let differ = others-differ (placed_of f) front back (rw flows-are at up) in
      rw (put-among differ.0, ← is)
      (sym (without-with f.sid (placed_of f) (in_order (map placed_of others)) refl (others-not up)))

  -- it stands among them
  pub order-stands : (sid : ℕ) → f.sid ≡ sid → Ascend (in_order (map placed_of flows))
      → StandsAmong sid (placed_of f) (in_order (map placed_of flows))
  order-stands sid is up =
      let differ = others-differ (placed_of f) front back (rw flows-are at up) in
      record {
        own = is;
        found = order-found sid is up;
        back = put-among differ.0 ∙ ap (with_placed (placed_of f)) (order-without sid is up);
      }

-- another flow of its SID in its place stands beside the others
pub order-instead : (sid : ℕ) (f g : PlacedFlow) (others flows new : List PlacedFlow) → HasOneMore f others flows
    → HasOneMore g others new → f.sid ≡ sid → g.sid ≡ sid → Ascend (in_order (map placed_of flows))
    → in_order (map placed_of new) ≡ with_placed (placed_of g) (without sid (in_order (map placed_of flows)))
order-instead sid f g others flows new one more is same up =
    let left = order-without f others flows one sid is up in
    order-with g others new more (rw (same, left) (gone sid (in_order (map placed_of flows))))
    ∙ ap (with_placed (placed_of g)) left

-- where no flow of the groups has the SID none of the table has
pub none-found : (sid : ℕ) (flows : List PlacedFlow) → AllByRecursion (λ f. (f.sid == sid) ≡ false) flows
    → IsNotPlaced sid (in_order (map placed_of flows))
none-found sid flows none = found-none sid (in_order (map placed_of flows))
    (all-order (λ g. g.sid ≢ sid) (map placed_of flows) (differ sid flows none))

-- where no flow has the SID none is placed
pub none-placed : (sid : ℕ) (flows : List PlacedFlow) → AllByRecursion (λ f. (f.sid == sid) ≡ false) flows
    → IsPlaced sid (in_order (map placed_of flows)) → ⊥
none-placed sid flows none placed =
    let absent = none-found sid flows none in
    let both : ◌≡◌ {A = Bool} false true = rw absent at placed in absurd (cc)
