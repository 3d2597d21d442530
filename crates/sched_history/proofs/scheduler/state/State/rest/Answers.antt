-- The flow rests in the table.
use Rattle.std.proofs.Common.{refl}
use Rattle.sched_history.proofs.steps.Passed.{passed-rest}
use Rattle.sched_history.proofs.state.Voices.{voice-placed, voice-polled}
use Rattle.sched_history.proofs.state.Moves.{IsStateAfter-rested}
use Rattle.sched_history.proofs.scheduler.state.State.rest.Goals as goal

pub rest-requires-clause-placed : goal.rest-requires-clause-placed
rest-requires-clause-placed c =
    let s = c.args.self.now in
    let opens = c.requires.1 in
    let may = passed-rest s.config c.requires.0 c.args.sid opens.unrefused in
    voice-placed s c.requires.0 c.args.sid opens.is_after opens.sound may.known may.voice

pub rest-requires-clause-room : goal.rest-requires-clause-room
rest-requires-clause-room c =
    let s = c.args.self.now in
    let opens = c.requires.1 in
    let may = passed-rest s.config c.requires.0 c.args.sid opens.unrefused in
    voice-polled s c.requires.0 c.args.sid opens.is_after opens.sound may.known may.voice may.long

pub returns : goal.returns
returns c = λ x opens. record {
  config = refl;
  answers = refl;
  encodable = tt;
  is_after = IsStateAfter-rested c.args.self.now x opens.is_after c.args.sid c.rest.new.self c.rest.ensures;
}
