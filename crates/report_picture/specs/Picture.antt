-- The picture of a report.
use Rattle.std.specs.Prelude.{◌≡◌, ℕ, ◌-◌, ◌==◌, nat_lt, Bool, if◌then◌else◌, List, [], ◌++◌, length, codes}
use Rattle.minislots.specs.declared.config.Config.{Config}
use Rattle.sched_report.specs.declared.totals.Totals.{Totals}
use Rattle.sched_report.specs.Window.{Window, frames_told, totals_told}
use Rattle.sched_report.specs.declared.ranks_told.RankTold.{RankTold}
use Rattle.sched_report.specs.RanksTold.{AreRanksTold}
use Rattle.report_picture.specs.declared.course.Course.{Course}
use Rattle.report_picture.specs.declared.over_time.Step.{Step}
use Rattle.report_picture.specs.OverTime.{all_steps, IsWidth}
use Rattle.report_picture.specs.Course.{or_zero}
use Rattle.report_picture.specs.Head.{head_text}
use Rattle.report_picture.specs.Areas.{areas_text, steps_text}
use Rattle.report_picture.specs.Axes.{axes_text}
use Rattle.report_picture.specs.Delays.{delays_text}

-- what stands in the place of steps where there are none
unfoldable pub no_frames_text : ℕ → List ℕ
no_frames_text steps =
    if steps == 0 then codes "<text class='head' x='24' y='-135'>No MAP was built, so there is no frame.</text>\n"
    else []

-- the use of minislots over time, with its axes
unfoldable pub use_text : Course → List Step → List ℕ
use_text c steps =
    codes "<g transform='translate(96 420)'>\n"
    ++ (areas_text c steps
    ++ (axes_text c ++ (steps_text c steps ++ (no_frames_text (length steps) ++ codes "</g>\n"))))

-- whether a picture tells how many requests were replaced: where one was accepted that supersedes those before
abbrev pub tells_replaced : Totals → Bool
tells_replaced t = nat_lt 0 t.replaces

-- the picture of these numbers
unfoldable pub report_text : Course → Totals → List Step → List RankTold → List ℕ
report_text c t steps ranks =
    head_text c t (length ranks) ++ (use_text c steps
    ++ (delays_text c.ticks (tells_replaced t) ranks ++ codes "</svg>\n"))

-- so many frames, on this channel, in steps of so many each, from where the first one starts to where the last one ends
abbrev pub course_of : Config → Totals → ℕ → ℕ → Course
course_of c t frames width = record {
  frame = c.frame;
  ticks = c.ticks;
  frames = frames;
  width = width;
  from = or_zero t.from;
  span = or_zero t.to - or_zero t.from;
  opens = t.opens;
}

-- The text is the picture of the report on what is told of a history
pub record IsReportPicture (w : Window) (text : List ℕ) : Type 0 where
  pub width : ℕ
  pub is_width : IsWidth (length (frames_told w)) width
  pub ranks : List RankTold
  pub are_ranks : AreRanksTold w ranks
  pub text_is : text
      ≡ report_text (course_of w.config (totals_told w) (length (frames_told w)) width) (totals_told w)
      (all_steps w.config width (frames_told w)) ranks
