-- The call is made and counted, and its answer is put.
use Rattle.std.proofs.Common.{ℕ, List, ◌++◌, ap, ◌∙◌, subst}
use Rattle.text_stream.proofs.Written.{where_ok}
use Rattle.live_command.specs.Answers.{answer_line, Counted, Waiting}
use Rattle.live_command.proofs.Counted.{Counted-put}
use Rattle.live_command.proofs.answer.answer_call.Goals as goal

pub returns-clause-ok : goal.returns-clause-ok
returns-clause-ok c =
    let made = c.make_counted-answer in
    let counted = c.count_call.ensures.counted _ _ made.ensures.may in
    where_ok c.put_answer.result (λ put. (
      made.result,
      made.ensures.may,
      put ∙ ap (λ (t : List ℕ). t ++ answer_line c.args.wording made.result)
          (c.count_call.ensures.text ∙ ap (λ (w : Waiting). w.text) made.ensures.outbox),
      made.ensures.state,
      subst (λ (w : Waiting). Counted c.args.scheduler.now.history c.args.call made.result w c.put_answer.new.self)
          made.ensures.outbox
          (Counted-put _ _ _ _ _ _ counted c.put_answer.ensures.total c.put_answer.ensures.since),
    )) c.put_answer.ensures.ok
