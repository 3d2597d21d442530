-- The ticks of a logarithmic axis of delays.
use Rattle.std.specs.Prelude.{ℕ, ◌*◌, ◌/◌, ◌%◌, ◌==◌, nat_le, nat_lt, Bool, false, if◌then◌else◌, List, [], ◌∷◌, codes}
use Rattle.std.specs.Prelude.{flat_map, slice_index_or}
use Rattle.std.specs.List.{range_with_len}
use Rattle.report_picture.specs.declared.axis.TheConstants.{ROUND}
use Rattle.report_picture.specs.declared.scale.Scale.{Scale}
use Rattle.report_picture.specs.Filled.{filled}
use Rattle.report_picture.specs.Levels.{level_place}
use Rattle.report_picture.specs.Scale.{quarters, scale_end}

-- a round number of microseconds: 1, 2 and 5 times each power of ten, one after the other
abbrev pub round_at : ℕ → ℕ
round_at i = slice_index_or ROUND i 0

-- a tick stands at each round number, or at each third one, a power of ten, where the end is more than 10,000 times
-- the start
abbrev pub tick_stride : ℕ → ℕ → ℕ
tick_stride start full = if nat_le full (10000 * start) then 1 else 3

-- whether a tick stands at a round number on an axis with these ends, in quarters of a microsecond
abbrev pub is_ticked : ℕ → ℕ → ℕ → Bool
is_ticked start full i =
    if nat_lt (4 * round_at i) start then false
    else if nat_lt full (4 * round_at i) then false
    else i % tick_stride start full == 0

-- a tick of so many microseconds at a place over so many rows: whole milliseconds are told as such
unfoldable pub decade_mark : ℕ → ℕ → ℕ → List ℕ
decade_mark x rows micros =
    if nat_lt micros 1000 then
    filled (codes "<path class='tick' d='M~-4V@'/><text class='at' x='~' y='-10'>^</text>\n")
    (x ∷ (32 * rows) ∷ x ∷ micros ∷ [])
    else
    filled (codes "<path class='tick' d='M~-4V@'/><text class='at' x='~' y='-10'>@</text>\n")
    (x ∷ (32 * rows) ∷ x ∷ (micros / 1000) ∷ [])

-- the tick of a round number, where one stands there
unfoldable pub decade_tick : Scale → ℕ → ℕ → ℕ → List ℕ
decade_tick s start rows i =
    if is_ticked (quarters s.ticks start) (scale_end s) i then
    decade_mark (level_place 6400 (4 * round_at i) (quarters s.ticks start) (scale_end s)) rows (round_at i)
    else []

-- the ticks of an axis that begins at a delay
abbrev pub decade_ticks : Scale → ℕ → ℕ → List ℕ
decade_ticks s start rows = flat_map (decade_tick s start rows) (range_with_len 0 58)
