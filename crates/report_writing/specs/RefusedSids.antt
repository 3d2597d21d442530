-- The metrics of the SIDs that refused calls name.
use Rattle.std.specs.Prelude.{ℕ, nat_lt, if◌then◌else◌, List, [], ◌++◌, flat_map, length, codes, slice_index}
use Rattle.std.specs.List.{range_with_len}
use Rattle.report_writing.specs.declared.metrics.sample.Measure.TheVariants.{Pieces}
use Rattle.report_writing.specs.declared.metrics.sample.Whose.TheVariants.{Sid}
use Rattle.report_writing.specs.Samples.{heading, labels_of, count_sample}

-- how many refused calls name a SID, where one does
unfoldable pub refused_sid_sample : List ℕ → ℕ → List ℕ
refused_sid_sample counts sid =
    if nat_lt 0 (slice_index counts sid)
    then count_sample (codes "mapsched_sid_refusals_total") (labels_of (Sid sid)) (slice_index counts sid)
    else []

-- all SIDs that one names, in ascending order
unfoldable pub refused_sids_metrics : List ℕ → List ℕ
refused_sids_metrics counts =
    heading (codes "mapsched_sid_refusals") (codes "counter") Pieces
    (codes "Refused calls by the SID that they name, whether a flow has it or not.")
    ++ flat_map (refused_sid_sample counts) (range_with_len 0 (length counts))
