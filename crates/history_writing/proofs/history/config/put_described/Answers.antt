-- The members of a configuration, one behind the other.
use Rattle.std.proofs.Common.{List, [], ◌∷◌, ◌++◌, ◌∙◌, ap, sym}
use Rattle.json.specs.Token.{Token}
use Rattle.text_stream.proofs.Written.{where_ok}
use Rattle.history_writing.proofs.ConfigTokens.{described-tokens}
use Rattle.history_writing.proofs.JsonTokens.{in_turn}
use Rattle.history_writing.proofs.history.config.put_described.Goals as goal

pub returns-clause-ok : goal.returns-clause-ok
returns-clause-ok c =
    let same = described-tokens c.args.config.now c.args.these.now in
    where_ok c.end_object.result (λ ended. in_turn c.args.out.now.tokens
    (c.begin_object.new.self.tokens ∷ c.key.new.self.tokens ∷ c.put_descriptors.new.out.tokens
    ∷ c.put_front.new.out.tokens ∷ c.put_back.new.out.tokens ∷ c.end_object.new.self.tokens ∷ [])
    (_ ∷ _ ∷ _ ∷ _ ∷ _ ∷ _ ∷ []) (
      c.in_ok-begin_object.ensures.ok,
      (
        c.in_ok-key.ensures.ok,
        (
          c.in_ok-put_descriptors.ensures.ok,
          (c.in_ok-put_front.ensures.ok, (c.in_ok-put_back.ensures.ok, (ended, tt))),
        ),
      ),
    ) ∙ ap (λ (more : List Token). c.args.out.now.tokens ++ more) (sym same))
    c.end_object.ensures.ok
