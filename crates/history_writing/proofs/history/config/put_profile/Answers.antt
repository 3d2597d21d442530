-- The members between their braces.
use Rattle.history_writing.specs.HistoryText.{profile_data}
use Rattle.text_stream.proofs.Written.{where_ok}
use Rattle.history_writing.proofs.JsonTokens.{wrapped}
use Rattle.history_writing.proofs.history.config.put_profile.Goals as goal

pub returns-clause-ok : goal.returns-clause-ok
unfolding profile_data
returns-clause-ok c =
    where_ok c.end_object.result
    (λ ended. wrapped _ _ _ _ _ c.in_ok-begin_object.ensures.ok c.in_ok-put_counts.ensures.ok ended)
    c.end_object.ensures.ok
