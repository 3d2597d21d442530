-- The first flow whose spots may not stand beside what is taken says that not all may.
use Rattle.std.proofs.Common.{◌≡◌, refl, sym, ap, ◌∙◌, subst, ◌+◌, ◌++◌, drop, append_assoc, arith}
use Rattle.periodic.specs.Placement.{spots_in}
use Rattle.channel_states.specs.PossiblePlaces.{MayStandTogether}
use Rattle.periodic.specs.Carried.{placed_in}
use Rattle.channel_states.specs.Taken.{taken_in, taken_by}
use Rattle.channel_states.proofs.Left.{drop-here}
use Rattle.channel_states.proofs.Together.{together-front, spots-first}
use Rattle.channel_states.proofs.frame.stand_beside_in.Goals as goal

pub returns-then-not-add_flow-clause-not : goal.returns-then-not-add_flow-clause-not
returns-then-not-add_flow-clause-not c = λ no all.
    let config = c.args.config.now in
    let place = c.args.place in
    let flows = c.args.flows.now in
    let i = c.loop-flow.flow-index in
    let f = c.flow-item.result in
    let taken = taken_in c.loop-flow.taken in
    let rest = drop (i + 1) flows in
    let next : spots_in config place (placed_in config (drop i flows))
    ≡ taken_by config place f ++ spots_in config place (placed_in config rest) =
    ap (λ fs. spots_in config place (placed_in config fs)) (drop-here flows i f (omega arith) c.flow-item.is)
    ∙ spots-first config place f rest in
    let whole : taken ++ (taken_by config place f ++ spots_in config place (placed_in config rest))
    ≡ spots_in config place (placed_in config flows) =
    ap (λ ss. taken ++ ss) (sym next) ∙ c.loop-flow.invariant.whole in
    c.if-not-add_flow.ensures.not refl
    (together-front (taken ++ taken_by config place f) (spots_in config place (placed_in config rest))
    (rw append_assoc (subst MayStandTogether (sym whole) all)))
