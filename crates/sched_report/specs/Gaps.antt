-- How many minislots in a row a frame has free.
use Rattle.std.specs.Prelude.{ℕ, ◌+◌, max, Bool, ◌||◌, List, [], ◌∷◌, if◌then◌else◌}
use Rattle.minislots.specs.declared.config.Config.{Config}
use Rattle.map_drawing.specs.declared.allocation.Allocation.{Allocation}
use Rattle.map_drawing.specs.Allocation.{allocations_of}
use Rattle.map_build.specs.declared.met.Met.{Met}
use Rattle.map_build.specs.Reading.{meets_at}
use Rattle.sched_calls.specs.declared.reply.Reply.TheVariants.{Built}
use Rattle.sched_history.specs.Reserves.{met_after}
use Rattle.frame_picture.specs.Frames.{Frame, is_unsolicited_after}
use Rattle.sched_report.specs.declared.slots.Use.{Use}
use Rattle.sched_report.specs.Uses.{use_of, is_data, is_open, is_idle}

-- minislots of the use are free for what is placed before data: they have a data grant, or nobody's
abbrev pub is_free : Use → Bool
is_free kind = is_data kind || is_open kind || is_idle kind

-- an allocation is free: its MAP meets these opportunities, and each flow is unsolicited or not
abbrev pub is_free_in : List Met → (ℕ → Bool) → Allocation → Bool
is_free_in met unsolicited a = is_free (use_of a (meets_at met a.offset) (unsolicited a.sid))

-- the free minislots in a row from the first of some allocations on
abbrev pub run_from : (Allocation → Bool) → List Allocation → ℕ
run_from free [] = 0
run_from free (a ∷ some) = if free a then a.length + run_from free some else 0

-- the most free minislots in a row, from whichever of some allocations on
abbrev pub longest_run : (Allocation → Bool) → List Allocation → ℕ
longest_run free [] = 0
longest_run free (a ∷ some) = max (run_from free (a ∷ some)) (longest_run free some)

-- the largest gap of a frame
abbrev pub gap_in : Config → Frame → ℕ
gap_in c f =
    longest_run (is_free_in (met_after c f.before (Built f.built)) (is_unsolicited_after f.before))
    (allocations_of f.built.wire.elements)
