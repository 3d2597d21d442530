-- A change is answered with a placement, or there is no place.
use Rattle.std.proofs.Common.{refl, inl, inr}
use Rattle.sched_history.proofs.state.Changing.{had, periodic-answer, given-answers}
use Rattle.sched_history.proofs.scheduler.state.State.follow_refused.Goals as goal

pub returns-then-not-is_refused-clause-differs : goal.returns-then-not-is_refused-clause-differs
returns-then-not-is_refused-clause-differs c = λ is x opens answers.
    let s = c.args.self.now in
    elim (periodic-answer s.config x c.args.sid (had s x c.args.sid c.args.spec opens) c.args.spec c.args.reply.now
    c.requires.periodic (given-answers s x c.args.sid c.args.spec opens c.args.reply.now answers)) [
      | inl placed ↦ c.requires.unplaced placed.0 placed.1
      | inr refused ↦ c.if-not-is_refused.ensures.other refl refused
    ]

pub returns-clause-follows : goal.returns-clause-follows
returns-clause-follows c = λ is x opens.
    rw (c.if-not-is_refused.ensures.refused refl) (c.lacks_place.ensures.follows is x opens)

pub returns-clause-differs : goal.returns-clause-differs
returns-clause-differs c = λ is x opens answers.
    c.lacks_place.ensures.differs is x opens (rw (c.if-not-is_refused.ensures.refused refl) at answers)
