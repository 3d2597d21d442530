-- The axes of a picture: the minislots of a frame, and the milliseconds that they take.
use Rattle.std.specs.Prelude.{ℕ, ◌+◌, ◌*◌, ◌/◌, nat_le, if◌then◌else◌, List, ◌++◌, codes, flat_map}
use Rattle.std.specs.List.{range_with_len}
use Rattle.frame_picture.specs.declared.layout.Scale.{Scale}
use Rattle.frame_picture.specs.Labelled.{labelled}
use Rattle.frame_picture.specs.Layout.{axes_of, axis_top, rows_under}
use Rattle.frame_picture.specs.Time.{ms_text}

-- how many minislots are from tick to tick, in a frame of so many
unfoldable pub tick_step : ℕ → ℕ
tick_step frame =
    if nat_le frame 20 then 2
    else if nat_le frame 50 then 5
    else if nat_le frame 100 then 10
    else if nat_le frame 200 then 20
    else if nat_le frame 500 then 50
    else 100

-- a tick down to a depth, the minislot that it stands for, and its milliseconds
unfoldable pub tick_text : Scale → ℕ → ℕ → List ℕ
tick_text scale depth slot =
    labelled (codes "<path class='tick' d='M") (scale.units * slot) ++ (labelled (codes " 64V") depth
    ++ (labelled (codes "'/><text class='at' x='") (scale.units * slot)
    ++ (labelled (codes "' y='46'>") slot
    ++ (labelled (codes "</text><text class='at' x='") (scale.units * slot)
    ++ (codes "' y='59'>" ++ (ms_text scale.ticks slot ++ codes "</text>\n"))))))

-- the ticks of a frame, down to a depth: at 0, and from there on step by step, the last one at its end or before
abbrev pub ticks_text : Scale → ℕ → List ℕ
ticks_text scale depth =
    flat_map (λ i. tick_text scale depth (tick_step scale.frame * i))
    (range_with_len 0 (scale.frame / tick_step scale.frame + 1))

-- the axis with this number over so many rows: the legend, and the ticks down to the last row under it
unfoldable pub axis_text : Scale → ℕ → ℕ → List ℕ
axis_text scale rows axis =
    labelled (codes "<g class='axis' transform='translate(176 ") (axis_top axis)
    ++ (codes ")'><use href='#legend'/>\n"
    ++ (ticks_text scale (68 + 28 * rows_under rows axis) ++ codes "</g>\n"))

-- the axes over so many rows, one above each 40 of them
abbrev pub axes_text : Scale → ℕ → List ℕ
axes_text scale rows = flat_map (axis_text scale rows) (range_with_len 0 (axes_of rows))
