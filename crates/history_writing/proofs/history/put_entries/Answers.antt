-- One entry more, and all entries between their brackets.
use Rattle.std.proofs.Common.{[], subst}
use Rattle.std.proofs.lemmas.List.{take_all}
use Rattle.std.specs.List.{AllByRecursion}
use Rattle.history_writing.specs.Fits.{EntryFits}
use Rattle.history_writing.specs.HistoryText.{entry_data, entries_data}
use Rattle.text_stream.proofs.Written.{where_ok}
use Rattle.history_writing.proofs.JsonTokens.{tokens-all}
use Rattle.history_writing.proofs.history.put_entries.Goals as goal

pub returns-clause-ok : goal.returns-clause-ok
unfolding entries_data
returns-clause-ok c =
    let at = c.loop-entry in
    where_ok c.end_array.result (λ ended.
    tokens-all entry_data c.args.entries.now at.entry-index c.args.out.now.tokens [] at.out.tokens _
    c.loop-entry-test.false at.invariant.0 ended) c.end_array.ensures.ok

pub returns-clause-fits : goal.returns-clause-fits
returns-clause-fits c =
    let at = c.loop-entry in
    let all = subst (AllByRecursion EntryFits) (take_all at.entry-index c.args.entries.now c.loop-entry-test.false)
    at.invariant.2 in
    where_ok c.end_array.result (λ _. all) c.end_array.ensures.ok
