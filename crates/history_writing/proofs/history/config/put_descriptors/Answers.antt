-- The members of burst descriptors, one behind the other.
use Rattle.std.proofs.Common.{[], ◌∷◌}
use Rattle.text_stream.proofs.Written.{where_ok}
use Rattle.history_writing.specs.HistoryText.{descriptors_data}
use Rattle.history_writing.proofs.JsonTokens.{in_turn}
use Rattle.history_writing.proofs.BurstTokens.{unsolicited-tokens}
use Rattle.history_writing.proofs.history.config.put_descriptors.Goals as goal

pub returns-clause-ok : goal.returns-clause-ok
unfolding descriptors_data
returns-clause-ok c =
    rw (unsolicited-tokens c.args.these.now)
    (where_ok c.end_object.result (λ ended. in_turn c.args.out.now.tokens
    (c.begin_object.new.self.tokens ∷ c.key.new.self.tokens ∷ c.put_profile.new.out.tokens ∷ c.key-2.new.self.tokens
    ∷ c.put_profile-2.new.out.tokens ∷ c.put_count.new.out.tokens ∷ c.put_unsolicited.new.out.tokens
    ∷ c.end_object.new.self.tokens ∷ []) (_ ∷ _ ∷ _ ∷ _ ∷ _ ∷ _ ∷ _ ∷ _ ∷ []) (
      c.in_ok-begin_object.ensures.ok,
      (
        c.in_ok-key.ensures.ok,
        (
          c.in_ok-put_profile.ensures.ok,
          (
            c.in_ok-key-2.ensures.ok,
            (
              c.in_ok-put_profile-2.ensures.ok,
              (c.in_ok-put_count.ensures.ok, (c.in_ok-put_unsolicited.ensures.ok, (ended, tt))),
            ),
          ),
        ),
      ),
    )) c.end_object.ensures.ok)
