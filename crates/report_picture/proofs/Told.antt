-- What a step tells, by what is kept.
use Rattle.std.proofs.Common.{◌≡◌, ℕ, ◌+◌, ◌-◌, ◌*◌, ◌<◌, ◌≤◌, List, length, get_or, min, ap, sym, ◌∙◌, arith}
use Rattle.minislots.specs.declared.config.Config.{Config}
use Rattle.frame_picture.specs.Frames.{Frame}
use Rattle.sched_report.specs.declared.slots.Slots.{Slots}
use Rattle.sched_report.specs.Uses.{sum_of}
use Rattle.report_picture.specs.declared.over_time.UseOverTime.{UseOverTime}
use Rattle.report_picture.specs.OverTime.{use_in, start_of, frames_at, steps_of}
use Rattle.report_picture.specs.Kept.{IsOverTime}
use Rattle.report_picture.proofs.Widths.{width-some}
use Rattle.report_picture.proofs.Marks.{use-next, use-all, step-begins}

module _ (c : Config) (u : UseOverTime) (fs : List Frame) (is : IsOverTime c u fs) (i : ℕ) (s : Slots) where
  -- the use up to the mark behind a step
  pub rest-marked : (t : Slots) → u.width * (i + 1) ≤ u.frames → i < steps_of u.width u.frames
      → get_or u.marks (i + 1) t ≡ sum_of (get_or u.marks i s) (use_in c (frames_at u.width fs i))
  rest-marked t within below =
      let some = width-some (length fs) u.width is.width in
      is.are.marks (i + 1) t (omega (arith, within, is.are.count)) ∙ use-next c u.width fs i
      ∙ ap (λ (b : Slots). sum_of b (use_in c (frames_at u.width fs i)))
      (sym (is.are.marks i s (omega (arith, is.are.count, step-begins u.width u.frames i some below))))

  -- and where there is none, all use
  pub rest-last : u.frames < u.width * (i + 1) → i < steps_of u.width u.frames
      → u.total ≡ sum_of (get_or u.marks i s) (use_in c (frames_at u.width fs i))
  rest-last past below =
      let some = width-some (length fs) u.width is.width in
      is.are.total ∙ use-all c u.width fs i (omega (arith, past, is.are.count))
      ∙ ap (λ (b : Slots). sum_of b (use_in c (frames_at u.width fs i)))
      (sym (is.are.marks i s (omega (arith, is.are.count, step-begins u.width u.frames i some below))))

module _ (c : Config) (u : UseOverTime) (fs : List Frame) (is : IsOverTime c u fs) (i d : ℕ) where
  -- where the first frame of a step starts
  pub first-told : i < steps_of u.width u.frames → get_or u.firsts i d ≡ start_of fs (u.width * i)
  first-told below =
      let some = width-some (length fs) u.width is.width in
      is.starts.firsts i d (omega (arith, is.are.count, step-begins u.width u.frames i some below))

  -- where its last one does: before the mark behind the step
  pub last-marked : u.width * (i + 1) ≤ u.frames
      → get_or u.lasts (i + 1) d ≡ start_of fs (min (u.width * (i + 1)) (length fs) - 1)
  last-marked within =
      let least : u.width * (i + 1) ≡ min (u.width * (i + 1)) (length fs) = omega (arith, within, is.are.count) in
      is.starts.lasts (i + 1) d (omega arith) (omega (arith, within, is.are.count))
      ∙ ap (λ k. start_of fs (k - 1)) least

  -- where there is no mark behind the step, its last frame is the last one of all
  pub last-rest : u.frames < u.width * (i + 1)
      → u.last ≡ start_of fs (min (u.width * (i + 1)) (length fs) - 1)
  last-rest past =
      let least : length fs ≡ min (u.width * (i + 1)) (length fs) = omega (arith, past, is.are.count) in
      is.starts.last ∙ ap (λ k. start_of fs (k - 1)) least
