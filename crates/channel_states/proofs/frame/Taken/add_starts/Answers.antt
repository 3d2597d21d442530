-- The first spot that may not stand beside what is taken says that not all may.
use Rattle.std.proofs.Common.{refl, sym, subst, ◌+◌, ◌++◌, [], ◌∷◌, map, drop, append_assoc, arith}
use Rattle.std.proofs.lemmas.List.{drop_more}
use Rattle.channel_states.specs.PossiblePlaces.{MayStandTogether}
use Rattle.channel_states.specs.Taken.{taken_in, spot_from}
use Rattle.channel_states.proofs.Together.{together-front}
use Rattle.channel_states.proofs.frame.Taken.add_starts.Goals as goal

pub returns-then-not-add-clause-not : goal.returns-then-not-add-clause-not
returns-then-not-add-clause-not c = λ no all.
    let taken = taken_in c.loop-start.self in
    let from = spot_from c.args.flow.now c.args.slots in
    let starts = c.args.starts.now in
    let i = c.loop-start.start-index in
    let spot = c.spot_from-spot.result in
    let rest = map from (drop (i + 1) starts) in
    let next = drop_more starts i 0 (omega arith) in
    let whole = c.loop-start.invariant.whole in
    let now = rw next at whole in
    let split = rw (← c.spot_from-spot.ensures) at now in
    c.if-not-add.ensures.not refl
    (together-front (taken ++ spot ∷ []) rest (rw append_assoc (subst MayStandTogether (sym split) all)))
