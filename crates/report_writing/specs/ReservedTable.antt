-- The table of the lives of flows with a minimum reserved rate.
use Rattle.std.specs.Prelude.{ℕ, ◌-◌, ◌/◌, nat_lt, Bool, if◌then◌else◌, List, [], ◌++◌, length}
use Rattle.std.specs.Prelude.{flat_map, codes, decimal}
use Rattle.sched_calls.specs.FlowSpec.{reserved_of}
use Rattle.sched_report.specs.declared.life.LifeNumbers.{LifeNumbers}
use Rattle.report_writing.specs.Columns.{right, number_column, percent_column}
use Rattle.report_writing.specs.Flows.{kind_title, told_of, left_out_text}
use Rattle.report_writing.specs.Reserved.{with_reservation}

-- the frames in the span of a life, where a frame has so many minislots
abbrev pub frames_in : ℕ → LifeNumbers → ℕ
frames_in frame n = (n.to - n.from) / frame

-- the line of a life: the rate that is reserved for it in bits per second, at how many starts of frames it waited under
-- it, and how many in a hundred of its frames that is
unfoldable pub reserved_line : ℕ → LifeNumbers → List ℕ
reserved_line frame n =
    right 3 (decimal n.sid) ++ (kind_title n.spec ++ (number_column 8 (reserved_of n.spec)
    ++ (number_column 8 n.under ++ (percent_column 7 n.under (frames_in frame n) ++ codes "\n"))))

-- what the columns are
unfoldable pub reserved_heading : List ℕ
reserved_heading =
    codes "\nflows with a minimum reserved rate: frames at whose start they waited under it\n"
    ++ codes " SID kind   reserved   frames       %\n"

-- the table of these lives, where there are any: of all, or else of the first 30
unfoldable pub reserved_lines : ℕ → Bool → List LifeNumbers → List ℕ
reserved_lines frame all lives =
    if nat_lt 0 (length lives) then
    reserved_heading ++ (flat_map (reserved_line frame) (told_of all lives) ++ left_out_text all (length lives))
    else []

-- the table of those of these lives that have such a rate
abbrev pub reserved_text : ℕ → Bool → List LifeNumbers → List ℕ
reserved_text frame all ordered = reserved_lines frame all (with_reservation ordered)
