-- The refusals so far stand behind the text.
use Rattle.std.proofs.Common.{◌≡◌, ◌++◌, flat_map}
use Rattle.std.specs.List.{range_with_len}
use Rattle.report_writing.specs.RefusedSids.{refused_sid_sample}
use Rattle.report_writing.proofs.metrics.refused_sids.push_refused_sids.Given as goal

abbrev pub invariant-loop-sid : goal.invariant-loop-sid
invariant-loop-sid l =
    l.words.items ≡ l.initial.words.items ++ flat_map (refused_sid_sample l.refused) (range_with_len 0 l.sid)
