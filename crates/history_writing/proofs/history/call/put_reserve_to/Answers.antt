-- The members of a call, one behind the other.
use Rattle.std.proofs.Common.{[], ◌∷◌}
use Rattle.text_stream.proofs.Written.{where_ok}
use Rattle.history_writing.proofs.JsonTokens.{in_turn}
use Rattle.history_writing.proofs.history.call.put_reserve_to.Goals as goal

pub returns-clause-ok : goal.returns-clause-ok
returns-clause-ok c =
    where_ok c.end_object.result (λ ended. in_turn c.args.out.now.tokens
    (c.begin_object.new.self.tokens ∷ c.put_name.new.out.tokens ∷ c.put_count.new.out.tokens
    ∷ c.put_count-2.new.out.tokens ∷ c.put_name-2.new.out.tokens ∷ c.end_object.new.self.tokens ∷ [])
    (_ ∷ _ ∷ _ ∷ _ ∷ _ ∷ _ ∷ []) (
      c.in_ok-begin_object.ensures.ok,
      (
        c.in_ok-put_name.ensures.ok,
        (
          c.in_ok-put_count.ensures.ok,
          (c.in_ok-put_count-2.ensures.ok, (c.in_ok-put_name-2.ensures.ok, (ended, tt))),
        ),
      ),
    )) c.end_object.ensures.ok
