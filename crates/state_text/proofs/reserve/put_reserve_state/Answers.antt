-- The members of a Reserve, one behind the other.
use Rattle.std.proofs.Common.{sym}
use Rattle.text_stream.proofs.Written.{where_ok}
use Rattle.history_writing.proofs.JsonTokens.{then_more}
use Rattle.state_text.specs.StateText.{reserve_state_data}
use Rattle.state_text.proofs.reserve.put_reserve_state.Goals as goal

pub returns-clause-ok : goal.returns-clause-ok
unfolding reserve_state_data
returns-clause-ok c =
    let at_begin_object = c.begin_object.new.self.tokens in
    let at_put_count = c.put_count.new.out.tokens in
    let at_put_maybe = c.put_maybe.new.out.tokens in
    let at_put_count_2 = c.put_count-2.new.out.tokens in
    let at_put_name = c.put_name.new.out.tokens in
    let last = c.end_object.new.self.tokens in
    rw (sym c.usage_sid.ensures.value, sym c.usage_name.ensures)
    (where_ok c.end_object.result (λ ended.
    then_more c.args.out.now.tokens at_begin_object last _ _ c.in_ok-begin_object.ensures.ok
    (then_more at_begin_object at_put_count last _ _ c.in_ok-put_count.ensures.ok
    (then_more at_put_count at_put_maybe last _ _ c.in_ok-put_maybe.ensures.ok
    (then_more at_put_maybe at_put_count_2 last _ _ c.in_ok-put_count-2.ensures.ok
    (then_more at_put_count_2 at_put_name last _ _ c.in_ok-put_name.ensures.ok ended))))) c.end_object.ensures.ok)
