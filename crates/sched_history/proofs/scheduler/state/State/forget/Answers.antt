-- A flow is removed.
use Rattle.std.proofs.Common.{refl, ap}
use Rattle.sched_history.proofs.steps.Passed.{passed-remove}
use Rattle.sched_history.proofs.state.Present.{IsLive-after, IsPlaced-after, unplaced-after}
use Rattle.sched_history.proofs.state.Moves.{IsStateAfter-removed}
use Rattle.sched_history.proofs.scheduler.state.State.forget.Goals as goal

pub remove-requires-clause-live : goal.remove-requires-clause-live
remove-requires-clause-live c =
    let s = c.args.self.now in
    let opens = c.requires.1 in
    IsLive-after s c.requires.0 c.args.sid opens.is_after
    (passed-remove s.config c.requires.0 c.args.sid opens.unrefused)

pub remove-requires-clause-placed : goal.remove-requires-clause-placed
remove-requires-clause-placed c =
    let s = c.args.self.now in
    let opens = c.requires.1 in
    IsPlaced-after s c.requires.0 c.args.sid opens.is_after opens.sound

pub remove-requires-clause-unplaced : goal.remove-requires-clause-unplaced
remove-requires-clause-unplaced c =
    let s = c.args.self.now in
    let opens = c.requires.1 in
    unplaced-after s c.requires.0 c.args.sid opens.is_after opens.sound

pub returns : goal.returns
returns c = λ x opens.
    let done = c.remove.ensures in
    record {
      config = ap (λ n. n.config) done.same;
      answers = refl;
      encodable = tt;
      is_after = IsStateAfter-removed c.args.self.now x opens.is_after c.remove.new.self done.same done.book_config
          done.table_config c.args.sid done.flows done.placed;
    }
