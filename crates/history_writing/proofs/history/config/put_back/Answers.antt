-- The limits where they stand, the fields behind them, the settling where it stands, and the last fields.
use Rattle.std.proofs.Common.{[], ◌∷◌}
use Rattle.text_stream.proofs.Written.{where_ok}
use Rattle.history_writing.proofs.JsonTokens.{in_turn}
use Rattle.history_writing.proofs.history.config.put_back.Goals as goal

pub returns-clause-ok : goal.returns-clause-ok
returns-clause-ok c =
    where_ok c.put_counts-2.result (λ put. in_turn c.args.out.now.tokens
    (c.put_optional.new.out.tokens ∷ c.put_optional-2.new.out.tokens ∷ c.put_counts.new.out.tokens
    ∷ c.put_optional-3.new.out.tokens ∷ c.put_counts-2.new.out.tokens ∷ [])
    (_ ∷ _ ∷ _ ∷ _ ∷ _ ∷ []) (
      c.in_ok-put_optional.ensures.ok,
      (
        c.in_ok-put_optional-2.ensures.ok,
        (c.in_ok-put_counts.ensures.ok, (c.in_ok-put_optional-3.ensures.ok, (put, tt))),
      ),
    ))
    c.put_counts-2.ensures.ok
