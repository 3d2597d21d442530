-- The members of a batch, one behind the other.
use Rattle.text_stream.proofs.Written.{where_ok}
use Rattle.history_writing.proofs.JsonTokens.{then_more}
use Rattle.state_text.specs.StateText.{batch_data}
use Rattle.state_text.proofs.flow.put_batch.Goals as goal

pub returns-clause-ok : goal.returns-clause-ok
unfolding batch_data
returns-clause-ok c =
    let at_begin_object = c.begin_object.new.self.tokens in
    let at_put_count = c.put_count.new.out.tokens in
    let at_put_count_2 = c.put_count-2.new.out.tokens in
    let at_put_maybe = c.put_maybe.new.out.tokens in
    let last = c.end_object.new.self.tokens in
    where_ok c.end_object.result (λ ended.
    then_more c.args.out.now.tokens at_begin_object last _ _ c.in_ok-begin_object.ensures.ok
    (then_more at_begin_object at_put_count last _ _ c.in_ok-put_count.ensures.ok
    (then_more at_put_count at_put_count_2 last _ _ c.in_ok-put_count-2.ensures.ok
    (then_more at_put_count_2 at_put_maybe last _ _ c.in_ok-put_maybe.ensures.ok ended)))) c.end_object.ensures.ok
