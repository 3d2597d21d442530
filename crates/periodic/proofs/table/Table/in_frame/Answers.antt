-- The spots of the frame's place in the cycle, sorted.
use Rattle.std.proofs.Common.{◌≡◌, refl, ◌∙◌, ◌≤◌, List, ◌++◌, length, take, map, arith}
use Rattle.std.specs.List.Sorted.{IsPermutation}
use Rattle.std.proofs.lemmas.List.{take_at, length-take-le}
use Rattle.std.proofs.lemmas.List.Sorted.{IsPermutation-trans, length_permutation}
use Rattle.periodic.specs.declared.placement.Spot.{Spot}
use Rattle.periodic.specs.declared.TheConstants.{MAX_SPOTS}
use Rattle.periodic.specs.Placement.{due_of, due_in}
use Rattle.periodic.specs.Fields.{placed_of}
use Rattle.periodic.specs.Groups.{flows_in, placed_in}
use Rattle.periodic.proofs.InOrder.{order-permuted}
use Rattle.periodic.proofs.Resting.{due-few}
use Rattle.periodic.proofs.Sorted.{IsFrameOf, frame-sorted}
use Rattle.periodic.proofs.table.Table.in_frame.Goals as goal

pub fill-count-requires : goal.fill-count-requires
fill-count-requires c =
    let config = c.self.inside.config in
    let groups = c.self.inside.groups.items in
    let flows = map placed_of (flows_in groups) in
    let k = c.args.k in
    let few = c.self.invariant.sound.few k in
    let same = length_permutation (due_in config k (placed_in groups)) (due_in config k flows)
    (order-permuted (due_of config k) flows) in
    record {
      sound = rw c.deref.ensures.value c.self.invariant.each;
      few = rw c.deref.ensures.value (omega (arith, few, same, due-few config k (placed_in groups)));
    }

-- the front of the array is the frame
in-order : (c : goal.After-sort) (rest : List Spot)
    → IsFrameOf c.args.self.now.config c.args.k c.args.self.now.placed
    (take c.fill-count.result (c.sort.new.spots ++ rest))
in-order c rest =
    let config = c.self.inside.config in
    let groups = c.self.inside.groups.items in
    let flows = map placed_of (flows_in groups) in
    let few : c.fill-count.result ≤ MAX_SPOTS = c.fill-count.ensures.most in
    let long : length c.sort.new.spots ≡ c.fill-count.result = c.sort.auto.spots
    ∙ length-take-le c.fill-count.result c.fill-count.new.spots (omega arith) in
    let written = rw c.deref.ensures.value at c.fill-count.ensures.spots in
    let moved : IsPermutation (due_in config c.args.k flows) c.sort.new.spots =
    rw (← written) c.sort.ensures.permutation in
    rw (← c.self.view_is, take_at c.sort.new.spots rest c.fill-count.result long)
    (frame-sorted config c.args.k (placed_in groups) (due_in config c.args.k (placed_in groups))
    c.sort.new.spots c.fill-count.ensures.lawful c.self.invariant.sound refl
    (IsPermutation-trans (due_in config c.args.k (placed_in groups)) (due_in config c.args.k flows)
    c.sort.new.spots (order-permuted (due_of config c.args.k) flows) moved)
    c.sort.ensures.sorted)

pub returns-clause-spots : goal.returns-clause-spots
returns-clause-spots c = (in-order c _).permuted

pub returns-clause-ascending : goal.returns-clause-ascending
returns-clause-ascending c = (in-order c _).in_turn

pub returns-clause-within : goal.returns-clause-within
returns-clause-within c = (in-order c _).within
