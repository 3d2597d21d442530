-- The descriptor stands where it is another.
use Rattle.std.proofs.Common.{[], ◌∷◌, ◌∙◌, sym}
use Rattle.text_stream.proofs.Written.{where_ok}
use Rattle.history_writing.proofs.JsonTokens.{then_more}
use Rattle.history_writing.proofs.history.config.put_unsolicited.Goals as goal

pub returns-clause-ok : goal.returns-clause-ok
returns-clause-ok c =
    rw (sym c.is_same.ensures ∙ c.if-is_same.false)
    (where_ok c.put_profile.result
    (λ put. then_more _ _ _ (_ ∷ []) _ c.in_ok-key.ensures.ok put) c.put_profile.ensures.ok)
