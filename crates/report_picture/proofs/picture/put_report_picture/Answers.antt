-- The picture of what was taken.
use Rattle.std.proofs.Common.{refl, length}
use Rattle.sched_report.specs.Window.{frames_told, totals_told}
use Rattle.report_picture.specs.OverTime.{all_steps}
use Rattle.report_picture.specs.Picture.{report_text, course_of}
use Rattle.report_picture.proofs.picture.put_report_picture.Goals as goal

pub returns : goal.returns
returns g c =
    let past = c.args.timed.now in
    let fs = frames_told past in
    let width = c.over_time-over_time.result.now.width in
    let told = c.over_time-over_time.ensures.told in
    let ranks = c.ranks_told-ranks.result in (
      report_text (course_of past.config (totals_told past) (length fs) width)
          (totals_told past) (all_steps past.config width fs) ranks,
      record {
        width = width;
        is_width = told.width;
        ranks = ranks;
        are_ranks = rw c.reporter-2.ensures at c.ranks_told-ranks.ensures.told;
        text_is = refl;
      },
      rw (
        c.as_slice.ensures,
        c.as_slice-2.ensures,
        c.course_of-course.ensures.value,
        c.totals-totals.ensures,
        c.reporter.ensures,
        c.all_steps-steps.ensures past.config fs told,
        told.are.count,
        c.requires.same,
      )
          at c.write_report.ensures,
    )
