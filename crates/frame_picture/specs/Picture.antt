-- The picture of a history's frames.
use Rattle.std.specs.Prelude.{ℕ, ◌+◌, ◌==◌, Bool, List, [], ◌∷◌, ◌++◌, length, codes, Option, None, Some}
use Rattle.std.specs.Prelude.{if◌then◌else◌}
use Rattle.minislots.specs.declared.config.Config.{Config}
use Rattle.sched_calls.specs.declared.frame_map.FrameMap.{FrameMap}
use Rattle.sched_calls.specs.declared.reply.Entry.{Entry}
use Rattle.sched_calls.specs.declared.reply.Reply.{Reply}
use Rattle.sched_calls.specs.declared.reply.Reply.TheVariants.{Built}
use Rattle.map_build.specs.declared.met.Met.{Met}
use Rattle.sched_history.specs.History.{map_by}
use Rattle.sched_history.specs.Reserves.{met_after}
use Rattle.frame_picture.specs.declared.layout.Scale.{Scale}
use Rattle.frame_picture.specs.declared.span.Span.{Span}
use Rattle.frame_picture.specs.declared.span.Place.{Place}
use Rattle.frame_picture.specs.Labelled.{labelled}
use Rattle.frame_picture.specs.Time.{ms_text}
use Rattle.frame_picture.specs.Layout.{scale_of, row_top}
use Rattle.frame_picture.specs.Frames.{Frame, is_unsolicited_after, frames_of, frames_in}
use Rattle.frame_picture.specs.Along.{next_start, left_out}
use Rattle.frame_picture.specs.Bars.{bars_text}
use Rattle.frame_picture.specs.Axis.{axes_text}
use Rattle.frame_picture.specs.Head.{head_text}

-- what stands before the bars of a row: the number of its frame, the minislot and the millisecond at which it starts
unfoldable pub start_text : ℕ → Place → ℕ → List ℕ
start_text ticks place start =
    labelled (codes "<g transform='translate(176 ") (row_top place.row)
    ++ (labelled (codes ")'>\n<text class='start' x='-128' y='15'>") place.number
    ++ (labelled (codes "</text><text class='start' x='-8' y='9'>") start
    ++ (codes "</text><text class='start' x='-8' y='21'>" ++ (ms_text ticks start ++ codes " ms</text>\n"))))

-- the mark of so many frames that were left out, above the row of the next one
unfoldable pub left_text : ℕ → List ℕ
left_text left =
    if left == 0 then []
    else
    labelled (codes "<text class='left' x='-172' y='0'>left out: ") left
    ++ codes "</text><path class='gap' d='M-72-4H1024'/>\n"

-- the row of a MAP, with the frames that were left out before it where the next one could start there, and with the bar
-- of each of its allocations, where these SIDs' flows are unsolicited and these opportunities are met
unfoldable pub map_text : Scale → Place → ℕ → (ℕ → Bool) → List Met → FrameMap → List ℕ
map_text scale place next unsolicited met m =
    start_text scale.ticks place m.start
    ++ (left_text (left_out scale next m.start)
    ++ (bars_text scale.units unsolicited met m.wire.elements m.bytes ++ codes "</g>\n"))

-- the row of a MAP, if there is one
abbrev pub built_text : Scale → Place → ℕ → (ℕ → Bool) → List Met → Option FrameMap → List ℕ
built_text scale place next unsolicited met None = []
built_text scale place next unsolicited met (Some m) = map_text scale place next unsolicited met m

-- the row of the MAP that a reply built, if it did and has a place
unfoldable pub entry_text : Scale → Option Place → ℕ → (ℕ → Bool) → List Met → Reply → List ℕ
entry_text scale None next unsolicited met reply = []
entry_text scale (Some place) next unsolicited met reply = built_text scale place next unsolicited met (map_by reply)

-- the row of a frame: an unsolicited flow is one that was so before the MAP, and an opportunity is met there by what a
-- reply meets that follows entries
abbrev pub row_text : Scale → (List Entry → Reply → List Met) → Place → Frame → List ℕ
row_text scale met place f = map_text scale place (next_start scale f.before) (is_unsolicited_after f.before)
    (met f.before (Built f.built)) f.built

-- the rows of frames, the first of which has this row, and this number more than that
abbrev pub rows_text : Scale → (List Entry → Reply → List Met) → ℕ → ℕ → List Frame → List ℕ
rows_text scale met from row [] = []
rows_text scale met from row (f ∷ fs) =
    row_text scale met (record { number = from + row; row = row }) f ++ rows_text scale met from (row + 1) fs

-- the picture of these frames, of so many, the first of which has this number
unfoldable pub frames_text : Scale → (List Entry → Reply → List Met) → ℕ → ℕ → List Frame → List ℕ
frames_text scale met total from frames =
    head_text scale (length frames) total
    ++ (axes_text scale (length frames) ++ (rows_text scale met from 0 frames ++ codes "</svg>\n"))

-- the picture of a history's frames that are drawn, where a reply that follows entries meets this
abbrev pub picture_text : Config → (List Entry → Reply → List Met) → Span → List Entry → List ℕ
picture_text c met span h =
    frames_text (scale_of c) met (length (frames_of h)) span.from (frames_in span (frames_of h))

-- the picture of a legal history: all its frames go by the plan
abbrev pub plan_text : Config → Span → List Entry → List ℕ
plan_text c span h = picture_text c (met_after c) span h
