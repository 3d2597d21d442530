-- The use of minislots, stacked, step by step.
use Rattle.std.specs.Prelude.{ℕ, ◌+◌, ◌-◌, Bool, if◌then◌else◌, List, [], ◌∷◌, ◌++◌, codes}
use Rattle.std.specs.Prelude.{flat_map, length, slice_index_or}
use Rattle.std.specs.List.{range_with_len}
use Rattle.sched_report.specs.declared.slots.Slots.{Slots}
use Rattle.sched_report.specs.declared.slots.Use.{Use}
use Rattle.sched_report.specs.declared.slots.Use.TheVariants.{Request, Poll, Unsolicited, Opportunity, Data, Open, Idle}
use Rattle.report_picture.specs.declared.course.Course.{Course}
use Rattle.report_picture.specs.declared.over_time.Step.{Step}
use Rattle.report_picture.specs.declared.over_time.TheConstants.{NO_STEP}
use Rattle.report_picture.specs.Filled.{filled}
use Rattle.report_picture.specs.Axis.{microseconds}
use Rattle.report_picture.specs.Course.{first_frame, frame_behind, height_of, end_of, time_since, time_place}

-- the name of the look of a use
unfoldable pub look_of : Use → List ℕ
look_of Request = codes "request"
look_of Poll = codes "poll"
look_of Unsolicited = codes "unsolicited"
look_of Opportunity = codes "opportunity"
look_of Data = codes "data"
look_of Open = codes "open"
look_of Idle = codes "idle"

-- the minislots of a use and of those that stand below it: from the request region up to idle ones
unfoldable pub slots_upto : Use → Slots → ℕ
slots_upto Request s = s.request
slots_upto Poll s = s.request + s.poll
slots_upto Unsolicited s = s.request + s.poll + s.unsolicited
slots_upto Opportunity s = s.request + s.poll + s.unsolicited + s.opportunity
slots_upto Data s = s.request + s.poll + s.unsolicited + s.opportunity + s.data_grants
slots_upto Open s = s.request + s.poll + s.unsolicited + s.opportunity + s.data_grants + s.open_idle
slots_upto Idle s = s.request + s.poll + s.unsolicited + s.opportunity + s.data_grants + s.open_idle + s.idle

-- the step at a place
abbrev pub step_in : List Step → ℕ → Step
step_in steps i = slice_index_or steps i NO_STEP

-- where a step begins
abbrev pub begin_place : Course → Step → ℕ
begin_place c s = time_place c s.first

-- where it ends
abbrev pub end_place : Course → Step → ℕ
end_place c s = time_place c (end_of c s.last)

-- to where a step begins, up to the upper edge of a use in it, on to where the step ends, and down
abbrev pub edge_text : Course → Use → List Step → ℕ → List ℕ
edge_text c kind steps i =
    filled (codes "H~V-~H~V0")
    (begin_place c (step_in steps i) ∷ height_of c (step_in steps i) (slots_upto kind (step_in steps i).slots)
    ∷ end_place c (step_in steps i) ∷ [])

-- the upper edge of a use, step by step
abbrev pub edges_text : Course → Use → List Step → List ℕ
edges_text c kind steps = flat_map (edge_text c kind steps) (range_with_len 0 (length steps))

-- what stands below the upper edge of a use
unfoldable pub area_text : Course → Use → List Step → List ℕ
area_text c kind steps =
    codes "<path class='area " ++ (look_of kind ++ (codes "' d='M0 0" ++ (edges_text c kind steps ++ codes "z'/>\n")))

-- open idles, where idles are open
abbrev pub open_area : Course → List Step → List ℕ
open_area c steps = if c.opens then area_text c Open steps else []

-- all uses: each one hides what stands below it of those above
unfoldable pub areas_text : Course → List Step → List ℕ
areas_text c steps =
    area_text c Idle steps ++ (open_area c steps ++ (area_text c Data steps ++ (area_text c Opportunity steps
    ++ (area_text c Unsolicited steps ++ (area_text c Poll steps ++ area_text c Request steps)))))

-- from which frame to which a step reaches, and from when to when, where the first frame starts at 0
unfoldable pub stretch_text : Course → Step → ℕ → List ℕ
stretch_text c s i =
    filled (codes "<path class='step' d='M~ 0V-320H~V0z'><title>frames @ to @, ")
    (begin_place c s ∷ end_place c s ∷ first_frame c i ∷ (frame_behind c i - 1) ∷ [])
    ++ filled (codes "^ to ^ ms, minislots: ")
    (microseconds c.ticks (time_since c s.first) ∷ microseconds c.ticks (time_since c (end_of c s.last)) ∷ [])

-- how many minislots are open idles, where idles are open
abbrev pub open_told : Bool → ℕ → List ℕ
open_told opens slots = if opens then filled (codes ", open idle @") (slots ∷ []) else []

-- what the minislots of a step are for
unfoldable pub slots_text : Bool → Slots → List ℕ
slots_text opens s =
    filled (codes "request region @, polls @, unsolicited @, opportunities @, data grants @")
    (s.request ∷ s.poll ∷ s.unsolicited ∷ s.opportunity ∷ s.data_grants ∷ [])
    ++ (open_told opens s.open_idle ++ filled (codes ", idle @</title></path>\n") (s.idle ∷ []))

-- what a step says of its frames
unfoldable pub step_text : Course → List Step → ℕ → List ℕ
step_text c steps i = stretch_text c (step_in steps i) i ++ slots_text c.opens (step_in steps i).slots

-- what all steps say
abbrev pub steps_text : Course → List Step → List ℕ
steps_text c steps = flat_map (step_text c steps) (range_with_len 0 (length steps))
