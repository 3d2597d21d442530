-- The members of a header, one behind the other.
use Rattle.text_stream.proofs.Written.{where_ok}
use Rattle.history_writing.proofs.JsonTokens.{then_more}
use Rattle.state_text.specs.StateText.{header_data}
use Rattle.state_text.proofs.state.put_header.Goals as goal

pub returns-clause-ok : goal.returns-clause-ok
unfolding header_data
returns-clause-ok c =
    let at_begin_object = c.begin_object.new.self.tokens in
    let at_put_count = c.put_count.new.out.tokens in
    let at_put_count_2 = c.put_count-2.new.out.tokens in
    let at_put_count_3 = c.put_count-3.new.out.tokens in
    let at_put_count_4 = c.put_count-4.new.out.tokens in
    let at_put_count_5 = c.put_count-5.new.out.tokens in
    let last = c.end_object.new.self.tokens in
    where_ok c.end_object.result (λ ended.
    then_more c.args.out.now.tokens at_begin_object last _ _ c.in_ok-begin_object.ensures.ok
    (then_more at_begin_object at_put_count last _ _ c.in_ok-put_count.ensures.ok
    (then_more at_put_count at_put_count_2 last _ _ c.in_ok-put_count-2.ensures.ok
    (then_more at_put_count_2 at_put_count_3 last _ _ c.in_ok-put_count-3.ensures.ok
    (then_more at_put_count_3 at_put_count_4 last _ _ c.in_ok-put_count-4.ensures.ok
    (then_more at_put_count_4 at_put_count_5 last _ _ c.in_ok-put_count-5.ensures.ok ended)))))) c.end_object.ensures.ok
