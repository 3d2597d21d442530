-- What is least or greatest among the MAPs as OpenMetrics, and how many Reserves lapsed.
use Rattle.std.specs.Prelude.{ℕ, List, ◌++◌, flat_map, codes, slice_index, Option, None, Some}
use Rattle.std.specs.List.{range_with_len}
use Rattle.sched_report.specs.declared.extremes.Extremes.{Extremes}
use Rattle.report_writing.specs.declared.metrics.sample.Measure.TheVariants.{Seconds, Pieces}
use Rattle.report_writing.specs.declared.metrics.sample.Whose.TheVariants.{Receiver}
use Rattle.report_writing.specs.Samples.{heading, labels_of, count_line, count_line_or_none, time_line_or_none}
use Rattle.report_writing.specs.Samples.{time_sample}

-- the elements of the fullest MAP, and how many Reserves lapsed
unfoldable pub most_metrics : Extremes → List ℕ
most_metrics x =
    heading (codes "mapsched_most_elements") (codes "gauge") Pieces
    (codes "Elements of the fullest MAP, with its Null and the pending grants behind it.")
    ++ (count_line (codes "mapsched_most_elements") x.elements
    ++ (heading (codes "mapsched_lapsed_reserves") (codes "counter") Pieces (codes "Reserves that lapsed.")
    ++ count_line (codes "mapsched_lapsed_reserves_total") x.lapsed))

-- the least margin of a build, and the least of the largest gaps of the frames, where there is a MAP
unfoldable pub least_metrics : ℕ → Extremes → List ℕ
least_metrics ticks x =
    heading (codes "mapsched_least_margin_seconds") (codes "gauge") Seconds
    (codes "Least time from the clock of a build to the start of its MAP.")
    ++ (time_line_or_none ticks (codes "mapsched_least_margin_seconds") x.margin
    ++ (heading (codes "mapsched_least_free_minislots") (codes "gauge") Pieces
    (codes "Most minislots in a row that each frame had for data or left idle.")
    ++ count_line_or_none (codes "mapsched_least_free_minislots") x.gap))

-- the greatest lag of a receiver
unfoldable pub lag_sample : ℕ → List ℕ → ℕ → List ℕ
lag_sample ticks lags receiver =
    time_sample ticks (codes "mapsched_receiver_most_lag_seconds") (labels_of (Receiver receiver))
    (slice_index lags receiver)

-- how many receivers have one: all of them where there is a margin, and so a MAP
abbrev pub lagging : Option ℕ → ℕ → ℕ
lagging None receivers = 0
lagging (Some margin) receivers = receivers

-- the greatest lags of all receivers, of which there are so many
unfoldable pub lags_metrics : ℕ → ℕ → Extremes → List ℕ
lags_metrics ticks receivers x =
    heading (codes "mapsched_receiver_most_lag_seconds") (codes "gauge") Seconds
    (codes "Most time from what a receiver had handed in to the start of a MAP.")
    ++ flat_map (lag_sample ticks x.lags) (range_with_len 0 (lagging x.margin receivers))

-- all of these
unfoldable pub extremes_metrics : ℕ → ℕ → Extremes → List ℕ
extremes_metrics ticks receivers x = most_metrics x ++ (least_metrics ticks x ++ lags_metrics ticks receivers x)
