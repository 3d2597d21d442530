-- The four members between their braces.
use Rattle.text_stream.proofs.Written.{where_ok}
use Rattle.history_writing.proofs.JsonTokens.{then_more}
use Rattle.report_writing.proofs.cell.put_spread.Goals as goal

pub returns-clause-ok : goal.returns-clause-ok
returns-clause-ok c =
    let begun = c.begin_object.new.self.tokens in
    let first = c.put_count_at.new.out.tokens in
    let second = c.put_count_at-2.new.out.tokens in
    let third = c.put_count_at-3.new.out.tokens in
    let fourth = c.put_count_at-4.new.out.tokens in
    let last = c.end_object.new.self.tokens in
    where_ok c.end_object.result (λ ended.
    then_more c.args.out.now.tokens begun last _ _ c.in_ok-begin_object.ensures.ok
    (then_more begun first last _ _ c.in_ok-put_count_at.ensures.ok
    (then_more first second last _ _ c.in_ok-put_count_at-2.ensures.ok
    (then_more second third last _ _ c.in_ok-put_count_at-3.ensures.ok
    (then_more third fourth last _ _ c.in_ok-put_count_at-4.ensures.ok ended))))) c.end_object.ensures.ok
