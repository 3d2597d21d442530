-- The flows are possible after the state's entries, with its next frame; and the places of a possible state are sound.
use Rattle.std.proofs.Common.{rules}
use Rattle.channel_states.specs.Possible.{IsPossible}
use Rattle.channel_states.proofs.Sound.{sound-places}
use Rattle.channel_states.proofs.possible.fault_of.Goals as goal

pub stand_beside-requires : goal.stand_beside-requires
stand_beside-requires c =
    (c.args.state.now.entries, c.args.state.now.next, c.in_default.ensures.possible)

pub returns-clause-sound : goal.returns-clause-sound
returns-clause-sound c =
    let possible : IsPossible c.args.config.now c.args.state.now = search rules in
    sound-places c.args.config.now c.args.state.now c.stand_beside.ensures.lawful possible
