-- The members of a report, one behind the other.
use Rattle.report_writing.specs.Report.{report_data}
use Rattle.text_stream.proofs.Written.{where_ok}
use Rattle.history_writing.proofs.JsonTokens.{then_more}
use Rattle.report_writing.proofs.printed.put_report.Goals as goal

pub returns-clause-ok : goal.returns-clause-ok
unfolding report_data
returns-clause-ok c =
    let begun = c.begin_object.new.self.tokens in
    let calls = c.key.new.self.tokens in
    let called = c.put_calls.new.out.tokens in
    let framed = c.put_at.new.out.tokens in
    let from = c.put_at-2.new.out.tokens in
    let lives = c.key-2.new.self.tokens in
    let lived = c.put_lives.new.out.tokens in
    let ranks = c.key-3.new.self.tokens in
    let ranked = c.put_ranks.new.out.tokens in
    let refusals = c.key-4.new.self.tokens in
    let refused = c.put_refused.new.out.tokens in
    let skipped = c.put_at-3.new.out.tokens in
    let to = c.put_at-4.new.out.tokens in
    let uses = c.key-5.new.self.tokens in
    let used = c.put_use.new.out.tokens in
    let last = c.end_object.new.self.tokens in
    where_ok c.end_object.result (λ ended.
    then_more c.args.out.now.tokens begun last _ _ c.in_ok-begin_object.ensures.ok
    (then_more begun calls last _ _ c.in_ok-key.ensures.ok
    (then_more calls called last _ _ c.in_ok-put_calls.ensures.ok
    (then_more called framed last _ _ c.in_ok-put_at.ensures.ok
    (then_more framed from last _ _ c.in_ok-put_at-2.ensures.ok
    (then_more from lives last _ _ c.in_ok-key-2.ensures.ok
    (then_more lives lived last _ _ c.in_ok-put_lives.ensures.ok
    (then_more lived ranks last _ _ c.in_ok-key-3.ensures.ok
    (then_more ranks ranked last _ _ c.in_ok-put_ranks.ensures.ok
    (then_more ranked refusals last _ _ c.in_ok-key-4.ensures.ok
    (then_more refusals refused last _ _ c.in_ok-put_refused.ensures.ok
    (then_more refused skipped last _ _ c.in_ok-put_at-3.ensures.ok
    (then_more skipped to last _ _ c.in_ok-put_at-4.ensures.ok
    (then_more to uses last _ _ c.in_ok-key-5.ensures.ok
    (then_more uses used last _ _ c.in_ok-put_use.ensures.ok ended)))))))))))))))
    c.end_object.ensures.ok
