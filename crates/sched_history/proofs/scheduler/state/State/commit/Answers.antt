-- The next frame is described.
use Rattle.std.proofs.Common.{refl, sym, ap, ◌∙◌, if◌then◌else◌}
use Rattle.sched_history.specs.Reserves.{aged, unmarked}
use Rattle.sched_history.proofs.time.NextFrames.{next_start_in}
use Rattle.sched_history.proofs.state.Moves.{IsStateAfter-built}
use Rattle.sched_history.proofs.state.Building.{reserves-behind}
use Rattle.sched_history.proofs.scheduler.state.State.commit.Goals as goal

pub take_in-requires-clause-config : goal.take_in-requires-clause-config
take_in-requires-clause-config c = c.requires.3.config ∙ sym c.requires.2.is_after.book_config

pub take_in-requires-clause-before : goal.take_in-requires-clause-before
take_in-requires-clause-before c = c.requires.3.before ∙ sym c.requires.2.is_after.flows

pub returns-clause-answered : goal.returns-clause-answered
returns-clause-answered c = λ now x opens fits.
    let s = c.args.self.now in
    let p = c.args.frame in
    rw (c.from.ensures, c.frame.ensures.value) (record {
      config = refl;
      answers = (p.map, fits.lawful, refl);
      encodable = fits.encodable;
      is_after = IsStateAfter-built s x opens.is_after now p.map c.take_in.new.self c.follow.new.self
          c.follow-2.new.self
          (c.take_in.ensures.config ∙ opens.is_after.book_config) (c.take_in.ensures.flows ∙ fits.flows)
          (c.follow.ensures ∙ ap (λ b. if b then s.reserves else aged
          (unmarked p.met s.reserves)) c.settles-settles.ensures
          ∙ reserves-behind s x opens.is_after p.met ∙ fits.reserves)
          (next_start_in s.config x p.map fits.lawful ∙ sym opens.is_after.next) c.follow-2.ensures;
    })
