-- Where the parts of a picture stand: an axis with its legend above each 40 rows.
use Rattle.std.specs.Prelude.{ℕ, ◌+◌, ◌-◌, ◌*◌, ◌/◌, ◌==◌, min}
use Rattle.minislots.specs.declared.config.Config.{Config}
use Rattle.frame_picture.specs.declared.layout.Scale.{Scale}

-- how many units a minislot is wide in frames of so many
abbrev pub slot_units : ℕ → ℕ
slot_units frame = 1024 / frame

-- the scale of a channel's frames
abbrev pub scale_of : Config → Scale
scale_of c = record {
  start = c.start;
  frame = c.frame;
  ticks = c.ticks;
  units = slot_units c.frame;
  opens = c.open_idle == 1;
}

-- how many axes so many rows have: one at least
abbrev pub axes_of : ℕ → ℕ
axes_of rows = (rows - 1) / 40 + 1

-- where the axis with this number begins
abbrev pub axis_top : ℕ → ℕ
axis_top axis = 34 + 1192 * axis

-- how many of so many rows stand under the axis with this number
abbrev pub rows_under : ℕ → ℕ → ℕ
rows_under rows axis = min 40 (rows - 40 * axis)

-- where the row with this number begins
abbrev pub row_top : ℕ → ℕ
row_top row = 106 + 28 * row + 72 * (row / 40)

-- how deep a picture of so many rows is
abbrev pub depth_of : ℕ → ℕ
depth_of rows = 42 + 28 * rows + 72 * axes_of rows
