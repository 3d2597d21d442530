-- What is known of a history that is counted, where one entry more follows it.
use Rattle.std.specs.Prelude.{◌≡◌, ◌<◌, Bool, List, ◌++◌, length}
use Rattle.minislots.specs.declared.config.Config.{Config}
use Rattle.map_build.specs.declared.met.Met.{Met}
use Rattle.sched_calls.specs.declared.reply.Entry.{Entry}
use Rattle.sched_calls.specs.declared.reply.TheConstants.{MAX_WHOLE_HISTORY}
use Rattle.sched_history.specs.History.{IsStep, IsLegal}
use Rattle.sched_history.specs.Reserves.{met_after}
use Rattle.frame_picture.specs.Frames.{TellsUnsolicited}
use Rattle.sched_report.specs.declared.totals.Totals.{Totals}
use Rattle.sched_report.specs.Totals.{AreTotals}

-- The history, some entries and others behind them, is legal and the entry may follow it, the numbers are those of the
-- others, it is told which flows are unsolicited after them, and its MAP meets these opportunities then
pub record IsCounted (c : Config) (before es : List Entry) (totals : Totals) (flows : List Bool) (met : List Met)
    (e : Entry) : Type 0 where
  pub legal : IsLegal c (before ++ es)
  pub step : IsStep c (before ++ es) e.call e.reply
  pub short : length (before ++ es) < MAX_WHOLE_HISTORY
  pub counted : AreTotals c before es totals
  pub told : TellsUnsolicited flows (before ++ es)
  pub meets : met ≡ met_after c (before ++ es) e.reply
