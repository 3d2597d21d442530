-- What is kept of the use of minislots over time.
use Rattle.std.specs.Prelude.{◌≡◌, ℕ, ◌+◌, ◌-◌, ◌*◌, ◌<◌, ◌≤◌, List, take, length, slice_index_or}
use Rattle.minislots.specs.declared.config.Config.{Config}
use Rattle.sched_calls.specs.declared.reply.TheConstants.{MAX_WHOLE_HISTORY}
use Rattle.frame_picture.specs.Frames.{Frame}
use Rattle.sched_report.specs.declared.slots.Slots.{Slots}
use Rattle.report_picture.specs.declared.over_time.UseOverTime.{UseOverTime}
use Rattle.sched_report.specs.Window.{Window, frames_told}
use Rattle.report_picture.specs.OverTime.{use_in, start_of, IsWidth}

-- The frames are counted, and each mark is the use of all of them before its step
pub record AreMarks (c : Config) (u : UseOverTime) (fs : List Frame) : Type 0 where
  pub count : u.frames ≡ length fs
  pub long : length u.marks ≡ 801
  pub total : u.total ≡ use_in c fs
  pub marks : (i : ℕ) (s : Slots) → u.width * i ≤ length fs
      → slice_index_or u.marks i s ≡ use_in c (take (u.width * i) fs)

-- It is told where the last frame starts, the first one of each step, and the one before each mark
pub record AreStarts (u : UseOverTime) (fs : List Frame) : Type 0 where
  pub long_firsts : length u.firsts ≡ 801
  pub long_lasts : length u.lasts ≡ 801
  pub last : u.last ≡ start_of fs (length fs - 1)
  pub firsts : (i d : ℕ) → u.width * i < length fs → slice_index_or u.firsts i d ≡ start_of fs (u.width * i)
  pub lasts : (i d : ℕ) → 0 < i → u.width * i ≤ length fs
      → slice_index_or u.lasts i d ≡ start_of fs (u.width * i - 1)

-- The steps have the width that so many frames have
pub record IsOverTime (c : Config) (u : UseOverTime) (fs : List Frame) : Type 0 where
  pub are : AreMarks c u fs
  pub starts : AreStarts u fs
  pub width : IsWidth (length fs) u.width

-- The use is that of the frames that are told of, in a history which is no longer than one may be
pub record IsTimed (w : Window) (u : UseOverTime) : Type 0 where
  pub over_time : IsOverTime w.config u (frames_told w)
  pub short : length w.history ≤ MAX_WHOLE_HISTORY
  pub passed : w.passed ≤ length w.history

-- The steps have the width that one frame more has
pub record IsReadyFor (c : Config) (u : UseOverTime) (fs : List Frame) : Type 0 where
  pub are : AreMarks c u fs
  pub starts : AreStarts u fs
  pub width : IsWidth (length fs + 1) u.width

-- And where that frame is the first one of a step, it is told where it starts
pub record HasBegun (c : Config) (u : UseOverTime) (fs : List Frame) (start : ℕ) : Type 0 where
  pub ready : IsReadyFor c u fs
  pub first : (i d : ℕ) → u.width * i ≡ length fs → slice_index_or u.firsts i d ≡ start
