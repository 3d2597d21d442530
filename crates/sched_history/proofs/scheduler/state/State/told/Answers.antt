-- Each call that is told has one answer.
use Rattle.std.proofs.Common.{◌≡◌, Bool, true, false, not, None, refl, inr}
use Rattle.sched_calls.specs.declared.reply.Reply.TheVariants as replies
use Rattle.sched_history.proofs.state.Present.{answers-best_effort}
use Rattle.sched_history.proofs.state.Changing.{answers-given}
use Rattle.sched_history.proofs.scheduler.state.State.told.Goals as goal

negated : (b : Bool) → not b ≡ true → b ≡ false
negated true is = absurd cc
negated false is = refl

pub returns-in-Admit : goal.returns-in-Admit
returns-in-Admit c = λ x opens. rw c.in-Admit.is (
    answers-best_effort c.args.self.now.config x c.in-Admit.field-1
    (negated _ (rw c.in-Admit.is at c.requires.told)))

pub returns-in-Skip : goal.returns-in-Skip
returns-in-Skip c = λ x opens. rw c.in-Skip.is (c.start_after.result, c.start_after.ensures, refl)

pub returns-in-Status : goal.returns-in-Status
returns-in-Status c = λ x opens. rw c.in-Status.is (c.tell.ensures x (rw c.in-Status.is at opens)).answers

pub returns-in-Change : goal.returns-in-Change
returns-in-Change c = λ x opens. rw c.in-Change.is (
    let opens' = rw c.in-Change.is at opens in
    let aperiodic = negated _ (rw c.in-Change.is at c.requires.told) in
    answers-given c.args.self.now x c.in-Change.field-0 c.in-Change.field-1 opens' (replies.Changed None)
    (inr (inr (aperiodic, refl))))
