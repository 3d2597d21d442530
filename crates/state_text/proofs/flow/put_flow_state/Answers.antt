-- The members of a flow, one behind the other.
use Rattle.text_stream.proofs.Written.{where_ok}
use Rattle.history_writing.proofs.JsonTokens.{then_more}
use Rattle.state_text.specs.StateText.{flow_state_data}
use Rattle.state_text.proofs.flow.put_flow_state.Goals as goal

pub returns-clause-ok : goal.returns-clause-ok
unfolding flow_state_data
returns-clause-ok c =
    let at_begin_object = c.begin_object.new.self.tokens in
    let at_put_count = c.put_count.new.out.tokens in
    let at_key = c.key.new.self.tokens in
    let at_put_batches = c.put_batches.new.out.tokens in
    let at_key_2 = c.key-2.new.self.tokens in
    let at_put_flow = c.put_flow.new.out.tokens in
    let at_put_count_2 = c.put_count-2.new.out.tokens in
    let at_put_maybe = c.put_maybe.new.out.tokens in
    let at_put_maybe_2 = c.put_maybe-2.new.out.tokens in
    let at_key_3 = c.key-3.new.self.tokens in
    let at_put_placed = c.put_placed.new.out.tokens in
    let at_put_maybe_3 = c.put_maybe-3.new.out.tokens in
    let at_put_count_3 = c.put_count-3.new.out.tokens in
    let at_put_maybe_4 = c.put_maybe-4.new.out.tokens in
    let last = c.end_object.new.self.tokens in
    where_ok c.end_object.result (λ ended.
    then_more c.args.out.now.tokens at_begin_object last _ _ c.in_ok-begin_object.ensures.ok
    (then_more at_begin_object at_put_count last _ _ c.in_ok-put_count.ensures.ok
    (then_more at_put_count at_key last _ _ c.in_ok-key.ensures.ok
    (then_more at_key at_put_batches last _ _ c.in_ok-put_batches.ensures.ok
    (then_more at_put_batches at_key_2 last _ _ c.in_ok-key-2.ensures.ok
    (then_more at_key_2 at_put_flow last _ _ c.in_ok-put_flow.ensures.ok
    (then_more at_put_flow at_put_count_2 last _ _ c.in_ok-put_count-2.ensures.ok
    (then_more at_put_count_2 at_put_maybe last _ _ c.in_ok-put_maybe.ensures.ok
    (then_more at_put_maybe at_put_maybe_2 last _ _ c.in_ok-put_maybe-2.ensures.ok
    (then_more at_put_maybe_2 at_key_3 last _ _ c.in_ok-key-3.ensures.ok
    (then_more at_key_3 at_put_placed last _ _ c.in_ok-put_placed.ensures.ok
    (then_more at_put_placed at_put_maybe_3 last _ _ c.in_ok-put_maybe-3.ensures.ok
    (then_more at_put_maybe_3 at_put_count_3 last _ _ c.in_ok-put_count-3.ensures.ok
    (then_more at_put_count_3 at_put_maybe_4 last _ _ c.in_ok-put_maybe-4.ensures.ok ended))))))))))))))
    c.end_object.ensures.ok
