-- Where the steps of a course stand in time.
use Rattle.std.specs.Prelude.{ℕ, ◌+◌, ◌-◌, ◌*◌, ◌<◌, ◌≤◌, min, Option, None, Some}
use Rattle.report_picture.specs.declared.axis.TheConstants.{HEIGHT, WIDTH}
use Rattle.report_picture.specs.declared.course.Course.{Course}
use Rattle.report_picture.specs.declared.over_time.Step.{Step}
use Rattle.report_picture.specs.Axis.{place}

-- the number of the first frame of a step
abbrev pub first_frame : Course → ℕ → ℕ
first_frame c i = min (c.width * i) c.frames

-- and of the one behind its last frame
abbrev pub frame_behind : Course → ℕ → ℕ
frame_behind c i = min (c.width * (i + 1)) c.frames

-- the minislot at which the frame ends that starts there
abbrev pub end_of : Course → ℕ → ℕ
end_of c start = start + c.frame

-- how many minislots a step is long: from the start of its first frame to the end of its last one, those of frames that
-- were left out among them
abbrev pub length_of : Course → Step → ℕ
length_of c s = end_of c s.last - s.first

-- how high so many minislots of a step stand, in tenths of a unit: 320 units stand for as many as it is long
abbrev pub height_of : Course → Step → ℕ → ℕ
height_of c s slots = place HEIGHT slots (length_of c s)

-- how many minislots there are from where the first frame starts up to this one
abbrev pub time_since : Course → ℕ → ℕ
time_since c minislot = minislot - c.from

-- where a minislot stands, in tenths of a unit: 1024 units stand for the time from the start of the first frame to the
-- end of the last one, frames that were left out among it
abbrev pub time_place : Course → ℕ → ℕ
time_place c minislot = place WIDTH (time_since c minislot) c.span

-- a number, or 0 where there is none
abbrev pub or_zero : Option ℕ → ℕ
or_zero None = 0
or_zero (Some n) = n

-- A height, rounded down, is to the greatest what some minislots are to all
pub record StandsFor (height slots all : ℕ) : Type 0 where
  pub below : height * all ≤ HEIGHT * slots
  pub above : HEIGHT * slots < (height + 1) * all

-- minislots of a step stand as high as they are of those that it is long
abbrev pub HeightsStand : Type 0
HeightsStand =
    (c : Course) (s : Step) (slots : ℕ) → 0 < length_of c s
    → StandsFor (height_of c s slots) slots (length_of c s)
