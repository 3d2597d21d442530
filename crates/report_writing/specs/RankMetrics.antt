-- The metrics of each rank.
use Rattle.std.specs.Prelude.{ℕ, List, ◌++◌, flat_map, codes}
use Rattle.sched_report.specs.declared.ranks_told.RankTold.{RankTold}
use Rattle.report_writing.specs.declared.metrics.sample.Measure.TheVariants.{Bytes, Seconds, Pieces}
use Rattle.report_writing.specs.declared.metrics.sample.Whose.TheVariants.{Rank}
use Rattle.report_writing.specs.declared.metrics.ranks.RankMetric.{RankMetric}
use Rattle.report_writing.specs.declared.metrics.ranks.RankMetric.TheVariants.{Granted, Requests, Served, Waiting}
use Rattle.report_writing.specs.declared.metrics.ranks.RankMetric.TheVariants.{Dropped, Replaced}
use Rattle.report_writing.specs.Samples.{heading, labels_of, count_sample, delay_samples}

-- the name of a metric
abbrev pub rank_metric_name : RankMetric → List ℕ
rank_metric_name Granted = codes "mapsched_rank_granted_bytes"
rank_metric_name Requests = codes "mapsched_rank_requests"
rank_metric_name Served = codes "mapsched_rank_served_requests"
rank_metric_name Waiting = codes "mapsched_rank_waiting_requests"
rank_metric_name Dropped = codes "mapsched_rank_dropped_requests"
rank_metric_name Replaced = codes "mapsched_rank_replaced_requests"

-- its number of a rank
abbrev pub rank_metric_number : RankMetric → RankTold → ℕ
rank_metric_number Granted t = t.numbers.sums.granted
rank_metric_number Requests t = t.numbers.sums.asks
rank_metric_number Served t = t.numbers.sums.served
rank_metric_number Waiting t = t.numbers.sums.waiting
rank_metric_number Dropped t = t.numbers.sums.dropped
rank_metric_number Replaced t = t.numbers.sums.replaced

-- its sample of a rank
unfoldable pub rank_sample : RankMetric → RankTold → List ℕ
rank_sample metric t =
    count_sample (rank_metric_name metric) (labels_of (Rank t.rank)) (rank_metric_number metric t)

-- of all ranks
abbrev pub rank_samples : RankMetric → List RankTold → List ℕ
rank_samples metric ranks = flat_map (rank_sample metric) ranks

-- the delays of a rank
unfoldable pub rank_delays : ℕ → RankTold → List ℕ
rank_delays ticks t =
    delay_samples ticks (codes "mapsched_rank_delay_seconds") (labels_of (Rank t.rank))
    t.numbers.sums.greatest t.numbers.sums.least t.numbers.middle t.numbers.p99

-- what was granted to the flows of each rank, and what they asked
unfoldable pub rank_asked_metrics : List RankTold → List ℕ
rank_asked_metrics ranks =
    heading (codes "mapsched_rank_granted_bytes") (codes "gauge") Bytes
    (codes "Bytes of data grants to the flows of a rank.")
    ++ (rank_samples Granted ranks
    ++ (heading (codes "mapsched_rank_requests") (codes "gauge") Pieces
    (codes "Accepted requests of the flows of a rank.")
    ++ (rank_samples Requests ranks
    ++ (heading (codes "mapsched_rank_served_requests") (codes "gauge") Pieces (codes "Requests that were served.")
    ++ rank_samples Served ranks))))

-- and their requests that were not served
unfoldable pub rank_left_metrics : List RankTold → List ℕ
rank_left_metrics ranks =
    heading (codes "mapsched_rank_waiting_requests") (codes "gauge") Pieces (codes "Requests that wait.")
    ++ (rank_samples Waiting ranks
    ++ (heading (codes "mapsched_rank_dropped_requests") (codes "gauge") Pieces
    (codes "Requests that waited when their flow was removed.")
    ++ (rank_samples Dropped ranks
    ++ (heading (codes "mapsched_rank_replaced_requests") (codes "gauge") Pieces
    (codes "Requests that waited when another superseded them.")
    ++ rank_samples Replaced ranks))))

-- how long those took that were served
unfoldable pub rank_delay_metrics : ℕ → List RankTold → List ℕ
rank_delay_metrics ticks ranks =
    heading (codes "mapsched_rank_delay_seconds") (codes "summary") Seconds
    (codes "Time from where a request was heard to the end of the grant that served it.")
    ++ flat_map (rank_delays ticks) ranks

-- the metrics of all ranks
unfoldable pub ranks_metrics : ℕ → List RankTold → List ℕ
ranks_metrics ticks ranks =
    rank_asked_metrics ranks ++ (rank_left_metrics ranks ++ rank_delay_metrics ticks ranks)
