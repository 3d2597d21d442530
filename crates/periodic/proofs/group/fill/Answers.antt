-- Each group's spots are written behind those before it.
use Rattle.std.proofs.Common.{◌≡◌, ◌∙◌, sym, ap, ℕ, ◌+◌, ◌%◌, ◌<◌, ◌++◌, [], ◌∷◌, length, take, map, arith}
use Rattle.std.specs.List.{flat_map}
use Rattle.std.proofs.lemmas.List.{flat_map_more, length-take-le, take_all, take_more}
use Rattle.std.proofs.lemmas.List.Folds.{length-flat_map-take}
use Rattle.periodic.specs.declared.group.Group.{Group}
use Rattle.periodic.specs.Fields.{placed_of}
use Rattle.periodic.proofs.Fields.{drop-later}
use Rattle.periodic.proofs.Frames.{due_in-place}
use Rattle.periodic.proofs.Grouped.{due_here, group-at, due-grouped}
use Rattle.periodic.proofs.group.fill.Goals as goal

-- the place is one of the cycle's
within : (k from slots cycle : ℕ) → from ≡ slots → slots ≡ cycle → 0 < cycle
    → (k % from ≡ k % cycle) × (k % from < cycle)
within k from slots cycle is same some =
    let place : k % from ≡ k % cycle = ap (λ n. k % n) (is ∙ same) in
    (place, rw place (omega (arith, some)))

pub put-count-requires : goal.put-count-requires
put-count-requires c =
    let config = c.args.config.now in
    let groups = c.args.groups.now in
    let k = c.args.k in
    let i = c.loop-group.group-index in
    let g = c.group-item.result in
    let some : 0 < config.cycle = omega (arith, c.cycle.ensures.positive, c.cycle.ensures.value) in
    let place = within k c.from.result c.cycle.result config.cycle c.from.ensures c.cycle.ensures.value some in
    let here : due_here config (k % c.from.result) g ≡ due_here config k g =
    ap (λ n. due_here config n g) place.0 ∙ due_in-place config k (map placed_of g.flows.items) in
    record {
      sound = (
        config,
        group-at config groups i g c.loop-group-test.true c.group-item.is c.requires.sound,
        place.1,
        omega (
          arith,
          c.requires.few,
          ap length (due-grouped config k groups),
          ap length c.loop-group.invariant.spots,
          length-flat_map-take (due_here config k) groups i g c.loop-group-test.true,
          ap (λ h. length (due_here config k h)) c.group-item.is,
          ap length here,
          length-take-le c.loop-group.count c.loop-group.spots
              (omega (arith, c.loop-group.invariant.most, c.loop-group.invariant.long)),
        ),
      );
    }

pub loop-group-preserved : goal.loop-group-preserved
loop-group-preserved c =
    let config = c.args.config.now in
    let groups = c.args.groups.now in
    let k = c.args.k in
    let i = c.loop-group.group-index in
    let g = c.group-item.result in
    let some : 0 < config.cycle = omega (arith, c.cycle.ensures.positive, c.cycle.ensures.value) in
    let place = within k c.from.result c.cycle.result config.cycle c.from.ensures c.cycle.ensures.value some in
    let here : due_here config (k % c.from.result) g ≡ due_here config k g =
    ap (λ n. due_here config n g) place.0 ∙ due_in-place config k (map placed_of g.flows.items) in
    let more : take (i + 1) groups ≡ take i groups ++ g ∷ [] =
    take_more groups i g c.loop-group-test.true ∙ ap (λ (h : Group). take i groups ++ h ∷ []) (sym c.group-item.is) in
    record {
      long = c.put-count.array_long;
      spots = c.put-count.ensures.spots config
          (group-at config groups i g c.loop-group-test.true c.group-item.is c.requires.sound) place.1
          ∙ ap (λ ss. ss ++ due_here config (k % c.from.result) g) c.loop-group.invariant.spots
          ∙ ap (λ ss. flat_map (due_here config k) (take i groups) ++ ss) here
          ∙ flat_map_more (due_here config k) [] (take i groups) g
          ∙ ap (flat_map (due_here config k)) (sym more);
      rest = c.put-count.ensures.rest
          ∙ drop-later c.loop-group.spots c.args.spots.now c.loop-group.count c.put-count.result
          c.put-count.ensures.more c.loop-group.invariant.rest;
      most = c.put-count.ensures.most;
    }

pub returns-clause-spots : goal.returns-clause-spots
returns-clause-spots c =
    let config = c.args.config.now in
    let groups = c.args.groups.now in
    let all : take c.loop-group.group-index groups ≡ groups =
    take_all c.loop-group.group-index groups (omega (arith, c.loop-group-test.false)) in
    c.loop-group.invariant.spots ∙ ap (flat_map (due_here config c.args.k)) all
    ∙ sym (due-grouped config c.args.k groups)
