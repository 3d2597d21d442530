-- The metrics of each life of a flow.
use Rattle.std.specs.Prelude.{ℕ, ◌+◌, if◌then◌else◌, List, [], ◌∷◌, ◌++◌, codes, Option, None, Some}
use Rattle.std.specs.List.{list_any}
use Rattle.sched_report.specs.declared.life.LifeNumbers.{LifeNumbers}
use Rattle.report_writing.specs.declared.metrics.sample.Measure.TheVariants.{Bytes, Seconds, Pieces}
use Rattle.report_writing.specs.declared.metrics.sample.Whose.TheVariants.{Rank, Life}
use Rattle.report_writing.specs.declared.metrics.life.LifeCount.{LifeCount}
use Rattle.report_writing.specs.declared.metrics.life.LifeCount.TheVariants.{Asked, Granted, Outstanding, Requests}
use Rattle.report_writing.specs.declared.metrics.life.LifeCount.TheVariants.{Served, Waiting, Dropped, Replaced}
use Rattle.report_writing.specs.declared.metrics.life.LifeMetric.{LifeMetric}
use Rattle.report_writing.specs.declared.metrics.life.LifeMetric.TheVariants.{Info, Start, End, Count, Oldest, Under}
use Rattle.report_writing.specs.declared.metrics.life.LifeMetric.TheVariants.{Held, Delay}
use Rattle.report_writing.specs.Report.{kind_name, rank_of}
use Rattle.report_writing.specs.Reserved.{has_reservation, under_of}
use Rattle.report_writing.specs.Held.{has_ceiling, held_of}
use Rattle.report_writing.specs.Samples.{heading, label, labels_of, count_sample, count_sample_or_none, time_sample}
use Rattle.report_writing.specs.Samples.{time_sample_or_none, delay_samples}

-- the name of the samples of a count
abbrev pub life_count_name : LifeCount → List ℕ
life_count_name Asked = codes "mapsched_flow_asked_bytes"
life_count_name Granted = codes "mapsched_flow_granted_bytes_total"
life_count_name Outstanding = codes "mapsched_flow_outstanding_bytes"
life_count_name Requests = codes "mapsched_flow_requests_total"
life_count_name Served = codes "mapsched_flow_served_requests_total"
life_count_name Waiting = codes "mapsched_flow_waiting_requests"
life_count_name Dropped = codes "mapsched_flow_dropped_requests_total"
life_count_name Replaced = codes "mapsched_flow_replaced_requests_total"

-- this count of a life
abbrev pub life_count : LifeCount → LifeNumbers → ℕ
life_count Asked n = n.sums.asked
life_count Granted n = n.granted
life_count Outstanding n = n.outstanding
life_count Requests n = n.sums.asks
life_count Served n = n.sums.delays.served
life_count Waiting n = n.waiting
life_count Dropped n = n.dropped
life_count Replaced n = n.sums.replaced

-- the label of the rank, where the flow has one
abbrev pub rank_label_of : Option ℕ → List ℕ
rank_label_of None = []
rank_label_of (Some rank) = codes "," ++ labels_of (Rank rank)

-- what a life is of: its place, its SID, the kind of its flow, and its rank
unfoldable pub life_labels : ℕ → LifeNumbers → List ℕ
life_labels place n =
    labels_of (Life place n.sid) ++ (codes "," ++ (label (codes "kind") (kind_name n.spec) ++ rank_label_of (rank_of n.spec)))

-- the sample that tells it
unfoldable pub life_info : ℕ → LifeNumbers → List ℕ
life_info place n = codes "mapsched_flow_info{" ++ (life_labels place n ++ codes "} 1\n")

-- the samples of a metric of the life at a place
unfoldable pub life_samples : ℕ → LifeMetric → ℕ → LifeNumbers → List ℕ
life_samples ticks Info place n = life_info place n
life_samples ticks Start place n =
    time_sample ticks (codes "mapsched_flow_start_seconds") (labels_of (Life place n.sid)) n.from
life_samples ticks End place n =
    time_sample ticks (codes "mapsched_flow_end_seconds") (labels_of (Life place n.sid)) n.to
life_samples ticks (Count count) place n =
    count_sample (life_count_name count) (labels_of (Life place n.sid)) (life_count count n)
life_samples ticks Oldest place n =
    time_sample_or_none ticks (codes "mapsched_flow_oldest_request_seconds") (labels_of (Life place n.sid)) n.oldest
life_samples ticks Under place n =
    count_sample_or_none (codes "mapsched_flow_under_reservation_frames_total") (labels_of (Life place n.sid))
    (under_of n)
life_samples ticks Held place n =
    count_sample_or_none (codes "mapsched_flow_at_ceiling_frames_total") (labels_of (Life place n.sid)) (held_of n)
life_samples ticks Delay place n =
    delay_samples ticks (codes "mapsched_flow_delay_seconds") (labels_of (Life place n.sid))
    n.sums.delays.greatest n.sums.delays.least n.middle n.p99

-- of lives from the one at a place on, in the order of their admissions
abbrev pub samples_from : ℕ → LifeMetric → ℕ → List LifeNumbers → List ℕ
samples_from ticks metric place [] = []
samples_from ticks metric place (n ∷ ns) = life_samples ticks metric place n ++ samples_from ticks metric (place + 1) ns

-- of all lives
abbrev pub lives_samples : ℕ → LifeMetric → List LifeNumbers → List ℕ
lives_samples ticks metric lives = samples_from ticks metric 0 lives

-- which flows lived, and when
unfoldable pub life_span_metrics : ℕ → List LifeNumbers → List ℕ
life_span_metrics ticks lives =
    heading (codes "mapsched_flow") (codes "info") Pieces (codes "A life of a flow, and its rank where it has one.")
    ++ (lives_samples ticks Info lives
    ++ (heading (codes "mapsched_flow_start_seconds") (codes "gauge") Seconds
    (codes "Start of the next frame at the admission, from minislot 0 on.")
    ++ (lives_samples ticks Start lives
    ++ (heading (codes "mapsched_flow_end_seconds") (codes "gauge") Seconds
    (codes "Start of the next frame at the removal, or now, from minislot 0 on.")
    ++ lives_samples ticks End lives))))

-- their bytes
unfoldable pub life_byte_metrics : ℕ → List LifeNumbers → List ℕ
life_byte_metrics ticks lives =
    heading (codes "mapsched_flow_asked_bytes") (codes "gauge") Bytes (codes "Bytes of accepted requests.")
    ++ (lives_samples ticks (Count Asked) lives
    ++ (heading (codes "mapsched_flow_granted_bytes") (codes "counter") Bytes
    (codes "Bytes of data grants, or of unsolicited grants.")
    ++ (lives_samples ticks (Count Granted) lives
    ++ (heading (codes "mapsched_flow_outstanding_bytes") (codes "gauge") Bytes
    (codes "Bytes that were asked and not granted.")
    ++ lives_samples ticks (Count Outstanding) lives))))

-- their requests
unfoldable pub life_request_metrics : ℕ → List LifeNumbers → List ℕ
life_request_metrics ticks lives =
    heading (codes "mapsched_flow_requests") (codes "counter") Pieces (codes "Accepted requests.")
    ++ (lives_samples ticks (Count Requests) lives
    ++ (heading (codes "mapsched_flow_served_requests") (codes "counter") Pieces (codes "Requests that were served.")
    ++ (lives_samples ticks (Count Served) lives
    ++ (heading (codes "mapsched_flow_waiting_requests") (codes "gauge") Pieces (codes "Requests that wait.")
    ++ lives_samples ticks (Count Waiting) lives))))

-- for how long the first of those that wait has waited
unfoldable pub life_oldest_metrics : ℕ → List LifeNumbers → List ℕ
life_oldest_metrics ticks lives =
    heading (codes "mapsched_flow_oldest_request_seconds") (codes "gauge") Seconds
    (codes "Time from where the first request that waits was heard to the start of the next frame.")
    ++ lives_samples ticks Oldest lives

-- those that will never be served
unfoldable pub life_lost_metrics : ℕ → List LifeNumbers → List ℕ
life_lost_metrics ticks lives =
    heading (codes "mapsched_flow_dropped_requests") (codes "counter") Pieces
    (codes "Requests that waited when the flow was removed.")
    ++ (lives_samples ticks (Count Dropped) lives
    ++ (heading (codes "mapsched_flow_replaced_requests") (codes "counter") Pieces
    (codes "Requests that waited when another superseded them.")
    ++ lives_samples ticks (Count Replaced) lives))

-- at how many starts of MAPs they waited under their minimum reserved rates, where one has such a rate
unfoldable pub life_under_metrics : ℕ → List LifeNumbers → List ℕ
life_under_metrics ticks lives =
    if list_any has_reservation lives then
    heading (codes "mapsched_flow_under_reservation_frames") (codes "counter") Pieces
    (codes "Frames at whose start the flow waited under its minimum reserved rate.")
    ++ lives_samples ticks Under lives
    else []

-- and at how many at their ceilings, where one has a ceiling
unfoldable pub life_held_metrics : ℕ → List LifeNumbers → List ℕ
life_held_metrics ticks lives =
    if list_any has_ceiling lives then
    heading (codes "mapsched_flow_at_ceiling_frames") (codes "counter") Pieces
    (codes "Frames at whose start the flow waited while its rate or its peak had no room.")
    ++ lives_samples ticks Held lives
    else []

-- how long those took that were served
unfoldable pub life_delay_metrics : ℕ → List LifeNumbers → List ℕ
life_delay_metrics ticks lives =
    heading (codes "mapsched_flow_delay_seconds") (codes "summary") Seconds
    (codes "Time from where a request was heard to the end of the grant that served it.")
    ++ lives_samples ticks Delay lives

-- the metrics of all lives
unfoldable pub lives_metrics : ℕ → List LifeNumbers → List ℕ
lives_metrics ticks lives =
    life_span_metrics ticks lives ++ (life_byte_metrics ticks lives ++ (life_request_metrics ticks lives
    ++ (life_oldest_metrics ticks lives ++ (life_lost_metrics ticks lives ++ (life_under_metrics ticks lives
    ++ (life_held_metrics ticks lives ++ life_delay_metrics ticks lives))))))
