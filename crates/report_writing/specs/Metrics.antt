-- The numbers of a report as OpenMetrics: those of the channel, and the whole text.
use Rattle.std.specs.Prelude.{◌≡◌, ℕ, ◌+◌, Bool, if◌then◌else◌, List, [], ◌++◌, flat_map, length, codes, slice_index}
use Rattle.std.specs.List.{range_with_len}
use Rattle.sched_report.specs.declared.calls.Calls.{Calls}
use Rattle.sched_report.specs.declared.slots.Slots.{Slots}
use Rattle.sched_report.specs.declared.totals.Totals.{Totals}
use Rattle.sched_report.specs.declared.extremes.Extremes.{Extremes}
use Rattle.sched_report.specs.declared.life.LifeNumbers.{LifeNumbers}
use Rattle.sched_report.specs.declared.ranks_told.RankTold.{RankTold}
use Rattle.sched_report.specs.Counts.{CountsRefusals}
use Rattle.sched_report.specs.RefusedSids.{CountsRefusedSids}
use Rattle.sched_report.specs.RanksTold.{AreRanksTold}
use Rattle.sched_report.specs.Window.{Window, entries_of, totals_told, AreExtremesTold}
use Rattle.report_writing.specs.declared.metrics.sample.Measure.TheVariants.{Seconds, Pieces}
use Rattle.report_writing.specs.Gathered.{AreLivesTold}
use Rattle.report_writing.specs.Samples.{heading, label, labels_of, count_sample, time_sample, count_line}
use Rattle.report_writing.specs.Samples.{time_line_or_none}
use Rattle.report_writing.specs.declared.metrics.sample.Whose.TheVariants.{Refusal}
use Rattle.report_writing.specs.ExtremeMetrics.{extremes_metrics}
use Rattle.report_writing.specs.RefusedSids.{refused_sids_metrics}
use Rattle.report_writing.specs.RankMetrics.{ranks_metrics}
use Rattle.report_writing.specs.LifeMetrics.{lives_metrics}

-- how many frames there are, and how often some were left out
unfoldable pub frames_metrics : Totals → List ℕ
frames_metrics t =
    heading (codes "mapsched_frames") (codes "counter") Pieces (codes "MAPs that were built.")
    ++ (count_line (codes "mapsched_frames_total") t.frames
    ++ (heading (codes "mapsched_skips") (codes "counter") Pieces (codes "How often frames were left out.")
    ++ count_line (codes "mapsched_skips_total") t.skips))

-- where the frames start and end
unfoldable pub reach_metrics : ℕ → Totals → List ℕ
reach_metrics ticks t =
    heading (codes "mapsched_first_frame_start_seconds") (codes "gauge") Seconds
    (codes "Start of the first frame, from minislot 0 on.")
    ++ (time_line_or_none ticks (codes "mapsched_first_frame_start_seconds") t.from
    ++ (heading (codes "mapsched_last_frame_end_seconds") (codes "gauge") Seconds
    (codes "End of the last frame, from minislot 0 on.")
    ++ time_line_or_none ticks (codes "mapsched_last_frame_end_seconds") t.to))

-- so many calls of a name
unfoldable pub call_sample : List ℕ → ℕ → List ℕ
call_sample name n = count_sample (codes "mapsched_calls_total") (label (codes "call") name) n

-- calls in the order of their names: the first of them
unfoldable pub first_call_samples : Calls → List ℕ
first_call_samples c =
    call_sample (codes "admit") c.admit ++ (call_sample (codes "ask") c.ask
    ++ (call_sample (codes "build") c.build ++ call_sample (codes "change") c.change))

-- those behind them
unfoldable pub middle_call_samples : Calls → List ℕ
middle_call_samples c =
    call_sample (codes "header") c.header ++ (call_sample (codes "heard") c.heard
    ++ (call_sample (codes "remove") c.remove ++ call_sample (codes "replace") c.replace))

-- and the others
unfoldable pub last_call_samples : Calls → List ℕ
last_call_samples c =
    call_sample (codes "reserve") c.reserve ++ (call_sample (codes "rest") c.rest
    ++ (call_sample (codes "skip") c.skip ++ (call_sample (codes "status") c.status
    ++ call_sample (codes "wake") c.wake)))

-- the calls of each name
unfoldable pub calls_metrics : Calls → List ℕ
calls_metrics c =
    heading (codes "mapsched_calls") (codes "counter") Pieces (codes "Calls by name, refused ones among them.")
    ++ (first_call_samples c ++ (middle_call_samples c ++ last_call_samples c))

-- the refusals with the number at a place, which are counted from 1
unfoldable pub refusal_sample : List ℕ → ℕ → List ℕ
refusal_sample counts place =
    count_sample (codes "mapsched_refusals_total") (labels_of (Refusal (place + 1))) (slice_index counts place)

-- the refusals with each number
unfoldable pub refusals_metrics : List ℕ → List ℕ
refusals_metrics counts =
    heading (codes "mapsched_refusals") (codes "counter") Pieces (codes "Refusals by number.")
    ++ flat_map (refusal_sample counts) (range_with_len 0 (length counts))

-- the time of the minislots of a use
unfoldable pub use_sample : ℕ → List ℕ → ℕ → List ℕ
use_sample ticks name minislots =
    time_sample ticks (codes "mapsched_use_seconds_total") (label (codes "use") name) minislots

-- of open idles, where idles are open
abbrev pub open_sample : ℕ → Bool → ℕ → List ℕ
open_sample ticks opens minislots = if opens then use_sample ticks (codes "open") minislots else []

-- of all uses
unfoldable pub use_samples : ℕ → Bool → Slots → List ℕ
use_samples ticks opens s =
    use_sample ticks (codes "data") s.data_grants ++ (use_sample ticks (codes "idle") s.idle
    ++ (open_sample ticks opens s.open_idle
    ++ (use_sample ticks (codes "opportunity") s.opportunity ++ (use_sample ticks (codes "poll") s.poll
    ++ (use_sample ticks (codes "request") s.request ++ use_sample ticks (codes "unsolicited") s.unsolicited)))))

-- the minislots of all frames by their use
unfoldable pub use_metrics : ℕ → Bool → Slots → List ℕ
use_metrics ticks opens s =
    heading (codes "mapsched_use_seconds") (codes "counter") Seconds (codes "Time of the minislots of all frames by use.")
    ++ use_samples ticks opens s

-- the numbers of the channel
unfoldable pub channel_metrics : ℕ → Totals → List ℕ → List ℕ
channel_metrics ticks t refused =
    frames_metrics t ++ (reach_metrics ticks t ++ (calls_metrics t.calls ++ (refusals_metrics refused
    ++ use_metrics ticks t.opens t.slots)))

-- all of them, where a minislot has so many ticks, and there are so many receivers
unfoldable pub metrics_text : ℕ → ℕ → Totals → List ℕ → Extremes → List ℕ → List RankTold → List LifeNumbers → List ℕ
metrics_text ticks receivers t refused x sids ranks lives =
    channel_metrics ticks t refused ++ (extremes_metrics ticks receivers x ++ (refused_sids_metrics sids
    ++ (ranks_metrics ticks ranks ++ (lives_metrics ticks lives ++ codes "# EOF\n"))))

-- The text is the metrics of the report on a history
pub record IsReportMetrics (w : Window) (text : List ℕ) : Type 0 where
  pub refused : List ℕ
  pub counts : CountsRefusals refused (entries_of w)
  pub extremes : Extremes
  pub are_extremes : AreExtremesTold w extremes
  pub sids : List ℕ
  pub counts_sids : CountsRefusedSids sids (entries_of w)
  pub ranks : List RankTold
  pub are_ranks : AreRanksTold w ranks
  pub lives : List LifeNumbers
  pub are_lives : AreLivesTold w lives
  pub text_is : text
      ≡ metrics_text w.config.ticks w.config.receivers (totals_told w) refused extremes sids ranks lives
