-- The steps so far.
use Rattle.std.proofs.Common.{◌≡◌, List, length, map}
use Rattle.std.specs.List.{range_with_len}
use Rattle.minislots.specs.declared.config.Config.{Config}
use Rattle.frame_picture.specs.Frames.{Frame}
use Rattle.report_picture.specs.OverTime.{step_at}
use Rattle.report_picture.specs.Kept.{IsOverTime}
use Rattle.report_picture.proofs.over_time.UseOverTime.all_steps.Given as goal

abbrev pub invariant-loop-i : goal.invariant-loop-i
invariant-loop-i l =
    (length l.steps ≡ l.i)
    × ((c : Config) (fs : List Frame) → IsOverTime c l.self fs
    → l.steps ≡ map (step_at c l.self.width fs) (range_with_len 0 l.i))
