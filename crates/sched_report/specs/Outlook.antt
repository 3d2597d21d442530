-- What the entries before one tell of it.
use Rattle.std.specs.Prelude.{◌≡◌, List, length}
use Rattle.minislots.specs.declared.config.Config.{Config}
use Rattle.sched_calls.specs.declared.reply.Reply.{Reply}
use Rattle.sched_calls.specs.declared.reply.Entry.{Entry}
use Rattle.sched_history.specs.Reserves.{met_after, reserves_of}
use Rattle.sched_report.specs.declared.outlook.Outlook.{Outlook}
use Rattle.sched_report.specs.Extremes.{TellsProgress}
use Rattle.sched_report.specs.Waits.{AreWaiters}

-- This is what a history tells of an entry with this reply that follows it: what its MAP meets, who waits where that
-- starts, how far the receivers are, and how many Reserves are open
pub record IsOutlook (c : Config) (h : List Entry) (reply : Reply) (o : Outlook) : Type 0 where
  pub met : o.met.items ≡ met_after c h reply
  pub waiters : AreWaiters c h reply o.waiters
  pub heard : TellsProgress c h o.heard
  pub reserves : o.reserves ≡ length (reserves_of c h)
