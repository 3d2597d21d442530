-- Each flow's spots are written behind those before it.
use Rattle.std.proofs.Common.{◌≡◌, ◌∙◌, sym, ap, ◌+◌, ◌++◌, [], ◌∷◌, List, length, take, arith}
use Rattle.std.specs.List.{flat_map}
use Rattle.std.proofs.lemmas.List.{flat_map_more, length-append, length-take-le, take_all, take_more}
use Rattle.std.proofs.lemmas.List.Folds.{flat_map-map, length-flat_map-take}
use Rattle.periodic.specs.declared.placement.Spot.{Spot}
use Rattle.periodic.specs.declared.spots.PlacedFlow.{PlacedFlow}
use Rattle.periodic.specs.Placement.{due_of}
use Rattle.periodic.specs.Fields.{placed_of}
use Rattle.periodic.proofs.Fields.{drop-later}
use Rattle.periodic.proofs.Grouped.{member-at}
use Rattle.periodic.proofs.Numbered.{member-place}
use Rattle.periodic.proofs.group.Group.put_all.Goals as goal

pub put-next-requires : goal.put-next-requires
put-next-requires c =
    let (config, sound, within, few) = c.requires.sound in
    let g = c.args.self.now in
    let given = c.deref-flow-items.result.now in
    let same = c.deref-flow-items.ensures.value in
    let i = c.loop-flow.flow-index in
    let f = c.flow-item.result in
    let own : PlacedFlow → List Spot = λ e. due_of config c.args.place (placed_of e) in
    let front = take c.args.count c.args.spots.now in
    let member = member-at config g given i f same c.loop-flow-test.true c.flow-item.is sound in
    let here = member-place config g.interval g.phase c.args.place f member c.requires.nominal in
    let written : length (take c.loop-flow.next c.loop-flow.spots)
    ≡ length (front ++ flat_map own (take i g.flows.items)) =
    ap length (c.loop-flow.invariant.spots config sound within) in record {
      sound = (
        config,
        member.flow,
        rw here within,
        omega (
          arith,
          few,
          written,
          length-take-le c.args.count c.args.spots.now (omega (arith, few)),
          length-flat_map-take own given i f c.loop-flow-test.true,
          ap (λ e. length (own e)) c.flow-item.is,
          ap (λ n. length (due_of config n (placed_of f))) here,
          ap (λ es. length (flat_map own es)) same,
          ap (λ es. length (flat_map own (take i es))) same,
          length-append front (flat_map own (take i g.flows.items)),
          length-take-le c.loop-flow.next c.loop-flow.spots
              (omega (arith, c.loop-flow.invariant.most, c.loop-flow.invariant.long)),
          ap length (flat_map-map (due_of config c.args.place) placed_of g.flows.items),
        ),
      );
    }

pub loop-flow-preserved : goal.loop-flow-preserved
loop-flow-preserved c = record {
  long = c.put-next.array_long;
  spots = λ config sound within.
      let g = c.args.self.now in
      let given = c.deref-flow-items.result.now in
      let same = c.deref-flow-items.ensures.value in
      let i = c.loop-flow.flow-index in
      let f = c.flow-item.result in
      let own : PlacedFlow → List Spot = λ e. due_of config c.args.place (placed_of e) in
      let front = take c.args.count c.args.spots.now in
      let member = member-at config g given i f same c.loop-flow-test.true c.flow-item.is sound in
      let here = member-place config g.interval g.phase c.args.place f member c.requires.nominal in
      let more : take (i + 1) given ≡ take i given ++ f ∷ [] =
      take_more given i f c.loop-flow-test.true
      ∙ ap (λ (e : PlacedFlow). take i given ++ e ∷ []) (sym c.flow-item.is) in
      c.put-next.ensures.spots config member.flow (rw here within)
      ∙ ap (λ n. take c.loop-flow.next c.loop-flow.spots ++ due_of config n (placed_of f)) here
      ∙ ap (λ ss. ss ++ own f) (c.loop-flow.invariant.spots config sound within)
      ∙ flat_map_more own front (take i g.flows.items) f
      ∙ ap (λ es. front ++ flat_map own (take i es ++ f ∷ [])) (sym same)
      ∙ ap (λ es. front ++ flat_map own es) (sym more)
      ∙ ap (λ es. front ++ flat_map own (take (i + 1) es)) same;
  rest = c.put-next.ensures.rest
      ∙ drop-later c.loop-flow.spots c.args.spots.now c.loop-flow.next c.put-next.result c.put-next.ensures.more
      c.loop-flow.invariant.rest;
  more = omega (arith, c.loop-flow.invariant.more, c.put-next.ensures.more);
  most = c.put-next.ensures.most;
}

pub returns-clause-spots : goal.returns-clause-spots
returns-clause-spots c = λ config sound within.
    let given = c.deref-flow-items.result.now in
    let items = c.args.self.now.flows.items in
    let own : PlacedFlow → List Spot = λ e. due_of config c.args.place (placed_of e) in
    let all : take c.loop-flow.flow-index items ≡ items =
    take_all c.loop-flow.flow-index items
    (omega (arith, c.loop-flow-test.false, ap length c.deref-flow-items.ensures.value)) in
    c.loop-flow.invariant.spots config sound within
    ∙ ap (λ es. take c.args.count c.args.spots.now ++ flat_map own es) all
    ∙ ap (λ ss. take c.args.count c.args.spots.now ++ ss)
    (sym (flat_map-map (due_of config c.args.place) placed_of items))
