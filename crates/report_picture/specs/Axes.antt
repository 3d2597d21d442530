-- The axes of the use of minislots: time to the right, minislots of a frame upwards.
use Rattle.std.specs.Prelude.{ℕ, ◌*◌, ◌/◌, nat_le, Bool, if◌then◌else◌, List, [], ◌∷◌, ◌++◌, codes, flat_map}
use Rattle.std.specs.List.{range_with_len}
use Rattle.report_picture.specs.declared.axes.TheConstants.{TEN_SECONDS}
use Rattle.report_picture.specs.declared.axis.TheConstants.{HEIGHT, WIDTH}
use Rattle.report_picture.specs.declared.course.Course.{Course}
use Rattle.report_picture.specs.Filled.{filled}
use Rattle.report_picture.specs.Axis.{place, round_step}

-- the time from the start of the first frame to the end of the last one, in quarters of a microsecond, of which a tick
-- has 25
abbrev pub quarters : Course → ℕ
quarters c = c.span * c.ticks * 25

-- whether the axis is in seconds: from 10 of them on, and else in milliseconds
abbrev pub is_in_seconds : Course → Bool
is_in_seconds c = nat_le TEN_SECONDS (quarters c)

-- so many quarters of a microsecond are a thousandth of the axis' unit
abbrev pub thousandth : Course → ℕ
thousandth c = if is_in_seconds c then 4000 else 4

-- so many thousandths of the unit the axis has
abbrev pub axis_end : Course → ℕ
axis_end c = quarters c / thousandth c

-- where so many of them stand, in tenths of a unit of the picture
abbrev pub mark_place : Course → ℕ → ℕ
mark_place c n = place WIDTH (n * thousandth c) (quarters c)

-- their mark
unfoldable pub time_mark : Course → ℕ → List ℕ
time_mark c n =
    filled (codes "<path class='tick' d='M~ 6V-320'/><text class='at' x='~' y='20'>^</text>\n")
    (mark_place c n ∷ mark_place c n ∷ n ∷ [])

-- their tick, where the axis has so many
unfoldable pub time_tick : Course → ℕ → List ℕ
time_tick c n = if nat_le n (axis_end c) then time_mark c n else []

-- the ticks of time: from 0 on, ten steps at most
abbrev pub time_ticks : Course → List ℕ
time_ticks c = flat_map (λ i. time_tick c (round_step (axis_end c) * i)) (range_with_len 0 11)

-- the name of the unit at the axis
unfoldable pub unit_name : Course → List ℕ
unit_name c = if is_in_seconds c then codes "seconds" else codes "milliseconds"

-- what the axis of time is in
unfoldable pub time_name : Course → List ℕ
time_name c =
    codes "<text class='at' x='512' y='38'>time from the start of the first frame, in "
    ++ (unit_name c ++ codes "</text>\n")

-- the tick of so many minislots of a frame
unfoldable pub slots_tick : Course → ℕ → List ℕ
slots_tick c n =
    if nat_le n c.frame then
    filled (codes "<path class='tick' d='M0-~h1024'/><text class='end' x='-8' y='-~' dy='4'>@</text>\n")
    (place HEIGHT n c.frame ∷ place HEIGHT n c.frame ∷ n ∷ [])
    else []

-- the ticks of minislots
abbrev pub slots_ticks : Course → List ℕ
slots_ticks c = flat_map (λ i. slots_tick c (round_step c.frame * i)) (range_with_len 0 11)

-- the ticks of parts of a frame
unfoldable pub part_ticks : List ℕ
part_ticks =
    codes "<text class='part' x='1032' y='4'>0 %</text><text class='part' x='1032' y='-76'>25 %</text>"
    ++ (codes "<text class='part' x='1032' y='-156'>50 %</text><text class='part' x='1032' y='-236'>75 %</text>"
    ++ codes "<text class='part' x='1032' y='-316'>100 %</text>\n")

-- what the axes are of, and the edge of what they are round
unfoldable pub axes_names : List ℕ
axes_names =
    codes "<path class='edge' d='M0-320V0H1024V-320z'/><text class='end' x='-8' y='-332'>minislots</text>"
    ++ codes "<text class='part' x='1032' y='-332'>of a frame</text>\n"

-- the axes
unfoldable pub axes_text : Course → List ℕ
axes_text c = slots_ticks c ++ (part_ticks ++ (time_ticks c ++ (axes_names ++ time_name c)))
