-- What a report tells of: the entries of a history behind so many of them.
use Rattle.std.specs.Prelude.{ℕ, List, take, drop}
use Rattle.minislots.specs.declared.config.Config.{Config}
use Rattle.sched_calls.specs.declared.reply.Entry.{Entry}
use Rattle.frame_picture.specs.Frames.{Frame, frames_after}
use Rattle.sched_report.specs.declared.totals.Totals.{Totals}
use Rattle.sched_report.specs.declared.extremes.Extremes.{Extremes}
use Rattle.sched_report.specs.Extremes.{AreExtremes}
use Rattle.sched_report.specs.Lives.{PastLife, lives_in}
use Rattle.sched_report.specs.Totals.{totals_of}

-- A history under a configuration, and how many of its entries come before what is told of it
pub record Window : Type 0 where
  pub config : Config
  pub history : List Entry
  pub passed : ℕ

-- all of a history
abbrev pub whole : Config → List Entry → Window
whole c h = record { config = c; history = h; passed = 0 }

-- the entries that are told of
abbrev pub entries_of : Window → List Entry
entries_of w = drop w.passed w.history

-- their frames
abbrev pub frames_told : Window → List Frame
frames_told w = frames_after (take w.passed w.history) (entries_of w)

-- their numbers
abbrev pub totals_told : Window → Totals
totals_told w = totals_of w.config (take w.passed w.history) (entries_of w)

-- their extremes
abbrev pub AreExtremesTold : Window → Extremes → Type 0
AreExtremesTold w x = AreExtremes w.config (take w.passed w.history) (entries_of w) x

-- all lives of the history, in the order of the admissions, each where what is told of it begins: nothing is told of
-- those that ended before
abbrev pub lives_told : Window → List PastLife
lives_told w = lives_in w.passed w.history
