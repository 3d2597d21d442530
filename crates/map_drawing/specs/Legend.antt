-- The legend of a drawing, and the whole of it.
use Rattle.std.specs.Prelude.{ℕ, List, ◌∷◌, [], ◌++◌, codes, flat_map}
use Rattle.std.specs.List.{range_with_len}
use Rattle.map_codec.specs.declared.element.Element.{Element}
use Rattle.map_drawing.specs.Usage.{element_usage, words_of}
use Rattle.map_drawing.specs.declared.usage.ElementUsage.{ElementUsage}
use Rattle.map_drawing.specs.declared.usage.ElementUsage.TheVariants.{RequestRegion, Poll, RequestData, DataAcknowledge}
use Rattle.map_drawing.specs.declared.usage.ElementUsage.TheVariants.{InitialMaintenance, StationMaintenance}
use Rattle.map_drawing.specs.declared.usage.ElementUsage.TheVariants.{ShortGrant, LongGrant, Idle, Null}
use Rattle.map_drawing.specs.declared.usage.ElementUsage.TheVariants.{AdvancedShortGrant, AdvancedLongGrant}
use Rattle.map_drawing.specs.declared.usage.ElementUsage.TheVariants.{AdvancedUnsolicitedGrant, Reserved}
use Rattle.map_drawing.specs.declared.allocation.Allocation.{Allocation}
use Rattle.map_drawing.specs.Allocation.{front_length, front_of, behind_of, frame_slots, allocation_at}
use Rattle.map_drawing.specs.Text.{spaces, column}
use Rattle.map_drawing.specs.Rows.{letter_of, row_slots, rows_text}

-- the head of the legend
abbrev pub legend_head : List ℕ
legend_head = codes "    SID offset slots usage\n"

-- the words of a usage, at the end of a line
unfoldable pub usage_end : ℕ → ℕ → List ℕ
usage_end sid iuc = words_of (element_usage sid iuc) ++ codes "\n"

-- the line of an allocation with a number: its letter, SID, offset, minislots and usage
unfoldable pub allocation_line : ℕ → Allocation → List ℕ
allocation_line i a =
    (letter_of i ∷ [])
    ++ (codes " " ++ (column 5 a.sid ++ (column 6 a.offset ++ (column 5 a.length ++ usage_end a.sid a.iuc))))

-- the lines of the allocations, each with its number
abbrev pub allocation_lines : List Element → List ℕ
allocation_lines es = flat_map (λ i. allocation_line i (allocation_at es i)) (range_with_len 0 (front_length es))

-- what an element behind the Null is: a data grant to a modem is a pending one
unfoldable pub state_of : ElementUsage → List ℕ
state_of RequestRegion = codes "behind the frame: "
state_of Poll = codes "behind the frame: "
state_of RequestData = codes "behind the frame: "
state_of InitialMaintenance = codes "behind the frame: "
state_of StationMaintenance = codes "behind the frame: "
state_of ShortGrant = codes "pending: "
state_of LongGrant = codes "pending: "
state_of Idle = codes "behind the frame: "
state_of Null = codes "behind the frame: "
state_of DataAcknowledge = codes "behind the frame: "
state_of AdvancedShortGrant = codes "pending: "
state_of AdvancedLongGrant = codes "pending: "
state_of AdvancedUnsolicitedGrant = codes "behind the frame: "
state_of Reserved = codes "behind the frame: "

-- the line of an element behind the Null: its SID, whether it is pending, and its usage
unfoldable pub behind_line : Element → List ℕ
behind_line e =
    codes "  " ++ (column 5 e.sid ++ (spaces 13 ++ (state_of (element_usage e.sid e.iuc) ++ usage_end e.sid e.iuc)))

-- the lines of the elements behind the Null
abbrev pub behind_lines : List Element → List ℕ
behind_lines es = flat_map behind_line (behind_of es)

-- the drawing of a MAP in so many columns: a character for each minislot of its frame, what each letter stands for, and
-- what stands behind the frame
unfoldable pub drawing_text : List Element → ℕ → List ℕ
drawing_text es columns =
    rows_text (front_of es) (frame_slots es) (row_slots columns)
    ++ (legend_head ++ (allocation_lines es ++ behind_lines es))
