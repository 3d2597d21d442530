-- The members of a state, one behind the other.
use Rattle.std.proofs.Common.{sym}
use Rattle.text_stream.proofs.Written.{where_ok}
use Rattle.history_writing.proofs.JsonTokens.{then_more}
use Rattle.state_text.specs.StateText.{state_data}
use Rattle.state_text.proofs.state.put_state.Goals as goal

pub returns-clause-ok : goal.returns-clause-ok
unfolding state_data
returns-clause-ok c =
    let at_begin_object = c.begin_object.new.self.tokens in
    let at_put_count = c.put_count.new.out.tokens in
    let at_put_maybe = c.put_maybe.new.out.tokens in
    let at_put_count_2 = c.put_count-2.new.out.tokens in
    let at_key = c.key.new.self.tokens in
    let at_put_flow_states = c.put_flow_states.new.out.tokens in
    let at_key_2 = c.key-2.new.self.tokens in
    let at_put_header = c.put_header.new.out.tokens in
    let at_put_count_3 = c.put_count-3.new.out.tokens in
    let at_put_slots = c.put_slots.new.out.tokens in
    let at_key_3 = c.key-3.new.self.tokens in
    let at_put_reserve_states = c.put_reserve_states.new.out.tokens in
    let at_put_count_4 = c.put_count-4.new.out.tokens in
    let last = c.end_object.new.self.tokens in
    rw (sym c.as_slice.ensures, sym c.as_slice-2.ensures, sym c.as_slice-3.ensures)
    (where_ok c.end_object.result (λ ended.
    then_more c.args.out.now.tokens at_begin_object last _ _ c.in_ok-begin_object.ensures.ok
    (then_more at_begin_object at_put_count last _ _ c.in_ok-put_count.ensures.ok
    (then_more at_put_count at_put_maybe last _ _ c.in_ok-put_maybe.ensures.ok
    (then_more at_put_maybe at_put_count_2 last _ _ c.in_ok-put_count-2.ensures.ok
    (then_more at_put_count_2 at_key last _ _ c.in_ok-key.ensures.ok
    (then_more at_key at_put_flow_states last _ _ c.in_ok-put_flow_states.ensures.ok
    (then_more at_put_flow_states at_key_2 last _ _ c.in_ok-key-2.ensures.ok
    (then_more at_key_2 at_put_header last _ _ c.in_ok-put_header.ensures.ok
    (then_more at_put_header at_put_count_3 last _ _ c.in_ok-put_count-3.ensures.ok
    (then_more at_put_count_3 at_put_slots last _ _ c.in_ok-put_slots.ensures.ok
    (then_more at_put_slots at_key_3 last _ _ c.in_ok-key-3.ensures.ok
    (then_more at_key_3 at_put_reserve_states last _ _ c.in_ok-put_reserve_states.ensures.ok
    (then_more at_put_reserve_states at_put_count_4 last _ _ c.in_ok-put_count-4.ensures.ok ended)))))))))))))
    c.end_object.ensures.ok)
