-- What a reporter keeps of the entries that it took.
use Rattle.std.specs.Prelude.{◌≡◌, ◌<◌, ◌≤◌, ℕ, List, [], ◌∷◌, ◌++◌, length, take, drop, vec_len, vec_capacity}
use Rattle.minislots.specs.Config.{IsLawful}
use Rattle.sched_calls.specs.declared.reply.Entry.{Entry}
use Rattle.sched_calls.specs.declared.reply.TheConstants.{MAX_WHOLE_HISTORY}
use Rattle.sched_history.specs.History.{IsStep, IsLegal}
use Rattle.sched_history.specs.Machine.{Past}
use Rattle.sched_history.specs.Reserves.{reserves_of}
use Rattle.sched_history.specs.Time.{next_after}
use Rattle.frame_picture.specs.Frames.{TellsUnsolicited}
use Rattle.sched_report.specs.declared.outlook.Outlook.{Outlook}
use Rattle.sched_report.specs.declared.tally.Tally.{Tally}
use Rattle.sched_report.specs.Counts.{CountsRefusals}
use Rattle.sched_report.specs.Extremes.{AreExtremes}
use Rattle.sched_report.specs.Live.{AreLive, HaveRoomFor}
use Rattle.sched_report.specs.Lives.{lives_in, IsRequest, IsOpening}
use Rattle.sched_report.specs.Outlook.{IsOutlook}
use Rattle.sched_report.specs.RefusedSids.{CountsRefusedSids}
use Rattle.sched_report.specs.ToldLives.{AreLives}
use Rattle.sched_report.specs.Totals.{AreTotals}
use Rattle.sched_report.specs.Waits.{AreWaited}

-- What is counted is of this history, which is legal, behind so many of its entries as were passed
pub record IsTally (h : List Entry) (t : Tally) : Type 0 where
  pub lawful : IsLawful t.config
  pub legal : IsLegal t.config h
  pub passed_few : t.passed ≤ length h
  pub told : TellsUnsolicited t.flows.value h
  pub totals : AreTotals t.config (take t.passed h) (drop t.passed h) t.totals
  pub extremes : AreExtremes t.config (take t.passed h) (drop t.passed h) t.extremes
  pub refused : CountsRefusals t.refused (drop t.passed h)
  pub sids : CountsRefusedSids t.refused_sids.items (drop t.passed h)
  pub next : t.next ≡ next_after t.config h
  pub lives : AreLives t.config t.lives.items (lives_in t.passed h)
  pub live : AreLive t.places.items t.lives.items
  pub waited : AreWaited t.config t.passed h t.waited

-- there is room for what an entry adds: the request that it is, or the life that it begins
pub record HasRoomToCount (t : Tally) (e : Entry) : Type 0 where
  pub requests : IsRequest e.call e.reply → HaveRoomFor t.config e.call e.reply t.lives.items
  pub lives : IsOpening e.call e.reply → vec_len t.lives < vec_capacity t.lives
  pub under : IsOpening e.call e.reply → vec_len t.waited.under < vec_capacity t.waited.under
  pub held : IsOpening e.call e.reply → vec_len t.waited.held < vec_capacity t.waited.held

-- The entry may follow the history that is counted, which tells this of it, and so many Reserves are open after it
pub record MayCount (h : List Entry) (t : Tally) (o : Outlook) (left : ℕ) (e : Entry) : Type 0 where
  pub tally : IsTally h t
  pub step : IsStep t.config h e.call e.reply
  pub short : length h < MAX_WHOLE_HISTORY
  pub outlook : IsOutlook t.config h e.reply o
  pub open_after : left ≡ length (reserves_of t.config (h ++ e ∷ []))

-- what is counted is of the history that the auditor took
pub record IsReport (past : Past) (t : Tally) : Type 0 where
  pub config : t.config ≡ past.config
  pub tally : IsTally past.history t
