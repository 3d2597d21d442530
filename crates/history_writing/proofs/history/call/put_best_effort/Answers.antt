-- The members of a flow, one behind the other.
use Rattle.std.proofs.Common.{List, [], ◌∷◌, ◌++◌, ◌∙◌, ap, sym}
use Rattle.json.specs.Token.{Token}
use Rattle.text_stream.proofs.Written.{where_ok}
use Rattle.history_writing.proofs.FlowTokens.{best_effort-tokens}
use Rattle.history_writing.proofs.JsonTokens.{in_turn}
use Rattle.history_writing.proofs.history.call.put_best_effort.Goals as goal

pub returns-clause-ok : goal.returns-clause-ok
returns-clause-ok c =
    let same = best_effort-tokens c.args.priority c.args.rate c.args.burst c.args.peak c.args.reserved
    c.args.reserved_burst in
    where_ok c.end_object.result (λ ended. in_turn c.args.out.now.tokens
    (c.begin_object.new.self.tokens ∷ c.put_count.new.out.tokens ∷ c.put_name.new.out.tokens
    ∷ c.put_optional.new.out.tokens ∷ c.put_count-2.new.out.tokens ∷ c.put_count-3.new.out.tokens
    ∷ c.put_optional-2.new.out.tokens ∷ c.put_optional-3.new.out.tokens
    ∷ c.end_object.new.self.tokens ∷ []) (_ ∷ _ ∷ _ ∷ _ ∷ _ ∷ _ ∷ _ ∷ _ ∷ _ ∷ []) (
      c.in_ok-begin_object.ensures.ok,
      (
        c.in_ok-put_count.ensures.ok,
        (
          c.in_ok-put_name.ensures.ok,
          (
            c.in_ok-put_optional.ensures.ok,
            (
              c.in_ok-put_count-2.ensures.ok,
              (
                c.in_ok-put_count-3.ensures.ok,
                (c.in_ok-put_optional-2.ensures.ok, (c.in_ok-put_optional-3.ensures.ok, (ended, tt))),
              ),
            ),
          ),
        ),
      ),
    ) ∙ ap (λ (more : List Token). c.args.out.now.tokens ++ more) (sym same))
    c.end_object.ensures.ok
