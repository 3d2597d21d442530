-- All lives between their brackets.
use Rattle.std.proofs.Common.{[]}
use Rattle.report_writing.specs.Report.{life_data}
use Rattle.text_stream.proofs.Written.{where_ok}
use Rattle.history_writing.proofs.JsonTokens.{tokens-all}
use Rattle.report_writing.proofs.printed.put_lives.Goals as goal

pub returns-clause-ok : goal.returns-clause-ok
returns-clause-ok c =
    let at = c.loop-life in
    where_ok c.end_array.result (λ ended.
    tokens-all (life_data c.args.replaced) c.args.lives.now at.life-index c.args.out.now.tokens [] at.out.tokens _
    c.loop-life-test.false at.invariant.0 ended) c.end_array.ensures.ok
