-- The answer is one, and is told as it is.
use Rattle.std.proofs.Common.{◌≡◌, refl, ◌∙◌, subst}
use Rattle.sched_history.specs.Situation.{after}
use Rattle.sched_history.specs.History.{AnswersIn}
use Rattle.sched_calls.specs.Reply.{IsEncodable}
use Rattle.sched_history.specs.State.{IsStateAfter}
use Rattle.sched_history.proofs.state.Following.{told-one, told-same, told-apart}
use Rattle.sched_history.proofs.scheduler.state.State.follow_told.Goals as goal

pub returns-clause-follows : goal.returns-clause-follows
returns-clause-follows c = λ is x opens.
    let s = c.args.self.now in
    let call = c.args.call in
    let answered = c.in_ok-make_told.ensures.answered x opens in
    let told = c.told.ensures x opens in
    let same : c.in_ok-make_told.field-0 ≡ c.args.reply.now =
    told-one s.config x call c.in_ok-make_told.field-0 c.told.result c.requires.told answered.answers told
    ∙ told-same s.config x call c.requires.told c.told.result c.args.reply.now told
    (c.if-not-is_same_flat.ensures.same refl) in
    record {
      config = answered.config;
      answers = subst (λ r. AnswersIn s.config x call r) same answered.answers;
      encodable = subst (λ r. IsEncodable r) same answered.encodable;
      is_after = subst (λ r. IsStateAfter c.make_told.new.self (after s.config x call r)) same answered.is_after;
    }

pub returns-then-not-is_same_flat-clause-differs : goal.returns-then-not-is_same_flat-clause-differs
returns-then-not-is_same_flat-clause-differs c = λ is x opens answers.
    told-apart c.args.self.now.config x c.args.call c.requires.told c.told.result c.args.reply.now
    (c.told.ensures x opens) (c.if-not-is_same_flat.ensures.apart refl) answers
