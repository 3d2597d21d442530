-- All minislots between their brackets.
use Rattle.std.proofs.Common.{[], ◌∷◌}
use Rattle.json.specs.Token.{Token}
use Rattle.history_writing.specs.Json.{count, counts}
use Rattle.text_stream.proofs.Written.{where_ok}
use Rattle.history_writing.proofs.JsonTokens.{tokens-all}
use Rattle.state_text.proofs.number.put_slots.Goals as goal

pub returns-clause-ok : goal.returns-clause-ok
unfolding counts
returns-clause-ok c =
    let at = c.loop-slot in
    where_ok c.end_array.result (λ ended.
    tokens-all count c.args.slots.now at.slot-index c.args.out.now.tokens (Token.key c.args.title.now ∷ [])
    at.out.tokens _ c.loop-slot-test.false at.invariant.0 ended) c.end_array.ensures.ok
