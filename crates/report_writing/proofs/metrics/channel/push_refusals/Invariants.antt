-- The refusals so far stand behind the text.
use Rattle.std.proofs.Common.{◌≡◌, ◌++◌, flat_map}
use Rattle.std.specs.List.{range_with_len}
use Rattle.report_writing.specs.Metrics.{refusal_sample}
use Rattle.report_writing.proofs.metrics.channel.push_refusals.Given as goal

abbrev pub invariant-loop-place : goal.invariant-loop-place
invariant-loop-place l =
    l.words.items ≡ l.initial.words.items ++ flat_map (refusal_sample l.refused) (range_with_len 0 l.place)
