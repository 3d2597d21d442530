-- The text of a report: its tables.
use Rattle.std.specs.Prelude.{◌≡◌, ℕ, Bool, List, ◌++◌}
use Rattle.sched_report.specs.declared.totals.Totals.{Totals}
use Rattle.sched_report.specs.declared.life.LifeNumbers.{LifeNumbers}
use Rattle.sched_report.specs.declared.ranks_told.RankTold.{RankTold}
use Rattle.sched_report.specs.Counts.{CountsRefusals}
use Rattle.sched_report.specs.RanksTold.{AreRanksTold}
use Rattle.sched_report.specs.Window.{Window, entries_of, totals_told}
use Rattle.report_writing.specs.Gathered.{AreLivesTold}
use Rattle.report_writing.specs.Report.{tells_replaced}
use Rattle.report_writing.specs.Tables.{head_text, uses_text, refused_text, ranks_text}
use Rattle.report_writing.specs.Flows.{AreOrdered, flows_text}
use Rattle.report_writing.specs.ReservedTable.{reserved_text}

-- the tables of these numbers, where a minislot has so many ticks and a frame so many minislots: of all lives or of
-- those that asked most
unfoldable pub tables_text : ℕ → ℕ → Bool → Totals → List ℕ → List RankTold → List LifeNumbers → List ℕ
tables_text ticks frame all t refused ranks ordered =
    head_text ticks t ++ (uses_text t.opens t.slots t.calls ++ (refused_text refused
    ++ (ranks_text ticks (tells_replaced t) ranks ++ (flows_text ticks (tells_replaced t) all ordered
    ++ reserved_text frame all ordered))))

-- The text is the tables of the report on a history, with all lives of flows or with those that asked most
pub record IsReportTables (all : Bool) (w : Window) (text : List ℕ) : Type 0 where
  pub refused : List ℕ
  pub counts : CountsRefusals refused (entries_of w)
  pub ranks : List RankTold
  pub are_ranks : AreRanksTold w ranks
  pub lives : List LifeNumbers
  pub are_lives : AreLivesTold w lives
  pub ordered : List LifeNumbers
  pub are_ordered : AreOrdered all lives ordered
  pub text_is : text ≡ tables_text w.config.ticks w.config.frame all (totals_told w) refused ranks ordered
