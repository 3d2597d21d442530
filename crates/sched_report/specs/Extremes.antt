-- What is least or greatest among the MAPs of entries of a history, and how many Reserves lapsed.
use Rattle.std.specs.Prelude.{◌≡◌, ℕ, ◌-◌, ◌*◌, ◌<◌, ◌≤◌, max, min, Bool, List, [], ◌∷◌, ◌++◌, length, map}
use Rattle.std.specs.Prelude.{filter_map, slice_index, Option, None, Some, option_map}
use Rattle.minislots.specs.declared.config.Config.{Config}
use Rattle.minislots.specs.Config.{IsLawful}
use Rattle.map_build.specs.declared.met.Met.{Met}
use Rattle.sched_calls.specs.declared.call.Call.{Call}
use Rattle.sched_calls.specs.declared.call.Call.TheVariants.{Build}
use Rattle.sched_calls.specs.declared.call.TheConstants.{MAX_RESERVES}
use Rattle.sched_calls.specs.declared.reply.Entry.{Entry}
use Rattle.sched_calls.specs.declared.reply.TheConstants.{MAX_WHOLE_HISTORY}
use Rattle.sched_history.specs.History.{map_by, IsStep, IsLegal}
use Rattle.sched_history.specs.Facts.{maps_of}
use Rattle.sched_history.specs.Reserves.{met_after, reserves_of, lapses_in}
use Rattle.sched_history.specs.Time.{progress_of}
use Rattle.frame_picture.specs.Frames.{Frame, frames_after, TellsUnsolicited}
use Rattle.sched_report.specs.declared.extremes.Extremes.{Extremes}
use Rattle.sched_report.specs.Gaps.{gap_in}

-- the clock of a build; no other call builds a MAP
abbrev pub clock_of : Call → ℕ
clock_of (Build now) = now
clock_of call = 0

-- how many minislots before the start of its MAP a build was made
abbrev pub margin_in : Entry → Option ℕ
margin_in e = option_map (λ m. m.start - clock_of e.call) (map_by e.reply)

-- the margins of all builds
abbrev pub margins_of : List Entry → List ℕ
margins_of es = filter_map margin_in es

-- how far a receiver's progress is behind the start of a frame, by the entries before its MAP
abbrev pub lag_in : Config → ℕ → Frame → ℕ
lag_in c receiver f = f.built.start - progress_of c receiver f.before

-- the greatest of some numbers, and 0 of none
abbrev pub greatest : List ℕ → ℕ
greatest [] = 0
greatest (n ∷ ns) = max n (greatest ns)

-- the lesser of a number and one that there may be
abbrev pub lesser_with : ℕ → Option ℕ → ℕ
lesser_with n None = n
lesser_with n (Some k) = min n k

-- the least of some numbers
abbrev pub least : List ℕ → Option ℕ
least [] = None
least (n ∷ ns) = Some (lesser_with n (least ns))

-- how many receivers a channel has at most
abbrev pub most_receivers : ℕ
most_receivers = 16

-- These are the extremes of entries that stand behind others
pub record AreExtremes (c : Config) (before es : List Entry) (x : Extremes) : Type 0 where
  -- the most elements of a MAP
  pub elements : x.elements ≡ greatest (map (λ m. length m.wire.elements) (maps_of es))
  -- the least margin of a build
  pub margin : x.margin ≡ least (margins_of es)
  -- the least of the largest gaps of the frames
  pub gap : x.gap ≡ least (map (gap_in c) (frames_after before es))
  -- the greatest lag of each receiver
  pub places : length x.lags ≡ most_receivers
  pub lags : (receiver : ℕ) → receiver < c.receivers
      → slice_index x.lags receiver ≡ greatest (map (lag_in c receiver) (frames_after before es))
  -- the Reserves that lapsed, not more for a MAP than may be open
  pub lapsed : x.lapsed ≡ lapses_in c before es
  pub few : x.lapsed ≤ MAX_RESERVES * length es

-- each receiver has this progress after a history
abbrev pub TellsProgress : Config → List Entry → List ℕ → Type 0
TellsProgress c h progress = (receiver : ℕ) → receiver < c.receivers
    → slice_index progress receiver ≡ progress_of c receiver h

-- The entry may follow the history, some entries and others behind them, of which these are the extremes. It is told
-- which flows are unsolicited then, what its MAP meets, how far the receivers are, and how many Reserves are open
-- before and after it
pub record IsWatched (c : Config) (before es : List Entry) (x : Extremes) (flows : List Bool) (met : List Met)
    (progress : List ℕ) (reserves left : ℕ) (e : Entry) : Type 0 where
  pub lawful : IsLawful c
  pub legal : IsLegal c (before ++ es)
  pub step : IsStep c (before ++ es) e.call e.reply
  pub short : length (before ++ es) < MAX_WHOLE_HISTORY
  pub watched : AreExtremes c before es x
  pub told : TellsUnsolicited flows (before ++ es)
  pub meets : met ≡ met_after c (before ++ es) e.reply
  pub heard : TellsProgress c (before ++ es) progress
  pub open_before : reserves ≡ length (reserves_of c (before ++ es))
  pub open_after : left ≡ length (reserves_of c (before ++ es ++ e ∷ []))
