-- The members of an entry, one behind the other.
use Rattle.history_writing.specs.HistoryText.{entry_data}
use Rattle.text_stream.proofs.Written.{where_ok}
use Rattle.history_writing.proofs.JsonTokens.{then_more}
use Rattle.history_writing.proofs.history.put_entry.Goals as goal

pub returns-clause-ok : goal.returns-clause-ok
unfolding entry_data
returns-clause-ok c =
    let begun = c.begin_object.new.self.tokens in
    let call = c.key.new.self.tokens in
    let called = c.put_call.new.out.tokens in
    let reply = c.key-2.new.self.tokens in
    let replied = c.put_reply.new.out.tokens in
    let stamped = c.put_stamp.new.out.tokens in
    let last = c.end_object.new.self.tokens in
    where_ok c.end_object.result (λ ended.
    then_more c.args.out.now.tokens begun last _ _ c.in_ok-begin_object.ensures.ok
    (then_more begun call last _ _ c.in_ok-key.ensures.ok
    (then_more call called last _ _ c.in_ok-put_call.ensures.ok
    (then_more called reply last _ _ c.in_ok-key-2.ensures.ok
    (then_more reply replied last _ _ c.in_ok-put_reply.ensures.ok
    (then_more replied stamped last _ _ c.in_ok-put_stamp.ensures.ok ended)))))) c.end_object.ensures.ok
