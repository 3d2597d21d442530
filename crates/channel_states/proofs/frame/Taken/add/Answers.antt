-- A spot is added where there is room and it is apart from all that are taken.
use Rattle.std.proofs.Common.{refl, arith}
use Rattle.std.proofs.lemmas.List.{length-take, take_more_set}
use Rattle.channel_states.specs.Taken.{taken_in}
use Rattle.channel_states.proofs.Together.{together-more, together-apart, together-room}
use Rattle.channel_states.proofs.frame.Taken.add.Goals as goal

pub returns-then-self-ge-MAX_SPOTS-clause-not : goal.returns-then-self-ge-MAX_SPOTS-clause-not
returns-then-self-ge-MAX_SPOTS-clause-not c = λ no all.
    let t = c.args.self.now in
    omega (arith, together-room (taken_in t) c.args.spot all, length-take t.count t.spots, c.if-self-ge-MAX_SPOTS.true)

pub returns-then-not-is_apart-clause-not : goal.returns-then-not-is_apart-clause-not
returns-then-not-is_apart-clause-not c = λ no all.
    c.if-not-is_apart.ensures.not refl (together-apart (taken_in c.args.self.now) c.args.spot all)

pub returns-clause-together : goal.returns-clause-together
returns-clause-together c = λ yes.
    let t = c.args.self.now in
    rw (take_more_set t.spots t.count c.args.spot (omega arith))
    (together-more (taken_in t) c.args.spot c.requires (omega (arith, length-take t.count t.spots))
    (c.if-not-is_apart.ensures.apart refl))
