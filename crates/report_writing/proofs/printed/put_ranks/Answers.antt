-- All ranks between their brackets.
use Rattle.std.proofs.Common.{[]}
use Rattle.report_writing.specs.Report.{rank_data}
use Rattle.text_stream.proofs.Written.{where_ok}
use Rattle.history_writing.proofs.JsonTokens.{tokens-all}
use Rattle.report_writing.proofs.printed.put_ranks.Goals as goal

pub returns-clause-ok : goal.returns-clause-ok
returns-clause-ok c =
    let at = c.loop-told in
    where_ok c.end_array.result (λ ended.
    tokens-all (rank_data c.args.replaced) c.args.ranks.now at.told-index c.args.out.now.tokens [] at.out.tokens _
    c.loop-told-test.false at.invariant.0 ended) c.end_array.ensures.ok
