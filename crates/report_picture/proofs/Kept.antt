-- What is kept of the use of minislots over time, as steps get wider.
use Rattle.std.proofs.Common.{◌≡◌, ℕ, ◌-◌, ◌*◌, ◌<◌, ◌≤◌, List, [], ◌∷◌, ◌++◌, length, take, drop, suc}
use Rattle.std.proofs.Common.{get_or, ap, sym, refl, ◌∙◌, Option, None, Some, length-append, arith}
use Rattle.std.proofs.Math.Nat.{two-pow-succ}
use Rattle.std.proofs.lemmas.List.{length-drop, take-append-le, drop-append-le}
use Rattle.minislots.specs.declared.config.Config.{Config}
use Rattle.sched_calls.specs.declared.frame_map.FrameMap.{FrameMap}
use Rattle.sched_calls.specs.declared.reply.Entry.{Entry}
use Rattle.sched_calls.specs.declared.reply.Reply.{Reply}
use Rattle.sched_calls.specs.declared.reply.Reply.TheVariants as replies
use Rattle.sched_history.specs.History.{map_by}
use Rattle.frame_picture.specs.Frames.{Frame, frame_by, frames_after}
use Rattle.sched_report.specs.declared.slots.Slots.{Slots}
use Rattle.sched_report.specs.Window.{Window, entries_of, frames_told}
use Rattle.sched_report.proofs.Pushed.{frames_after-built, frames_after-unbuilt}
use Rattle.report_picture.specs.declared.over_time.UseOverTime.{UseOverTime}
use Rattle.report_picture.specs.OverTime.{use_in, start_of}
use Rattle.report_picture.specs.Kept.{IsOverTime, IsReadyFor}
use Rattle.report_picture.proofs.Widths.{width-some}
use Rattle.report_picture.proofs.Starts.{half-marks}

one_frame : (before : List Entry) (o : Option FrameMap) → length (frame_by before o) ≤ 1
one_frame before None = omega arith
one_frame before (Some m) = omega arith

few_after : (before es : List Entry) → length (frames_after before es) ≤ length es
few_after before [] = omega arith
few_after before (e ∷ es) =
    omega (
      arith,
      length-append (frame_by before (map_by e.reply)) (frames_after (before ++ e ∷ []) es),
      one_frame before (map_by e.reply),
      few_after (before ++ e ∷ []) es,
    )

-- no more frames are told of than there are entries
pub few_frames : (w : Window) → length (frames_told w) ≤ length w.history
few_frames w =
    omega (arith, few_after (take w.passed w.history) (drop w.passed w.history), length-drop w.passed w.history)

module _ (w : Window) (e : Entry) where
  -- what is told of with one entry more
  abbrev more : Window
  more = record w { history = w.history ++ e ∷ [] }

  frames-more : w.passed ≤ length w.history
      → frames_told more ≡ frames_after (take w.passed w.history) (entries_of w ++ e ∷ [])
  frames-more passed =
      ap (λ (es : List Entry). frames_after es (entries_of more)) (take-append-le w.passed w.history (e ∷ []) passed)
      ∙ ap (frames_after (take w.passed w.history)) (drop-append-le w.passed w.history (e ∷ []) passed)

  -- has a frame more where that has a MAP
  pub frames-built : (m : FrameMap) → w.passed ≤ length w.history → e.reply ≡ replies.Built m
      → frames_told more
      ≡ frames_told w ++ record { before = take w.passed w.history ++ entries_of w; built = m } ∷ []
  frames-built m passed is = frames-more passed ∙ frames_after-built (take w.passed w.history) (entries_of w) e m is

  -- and else the same
  pub frames-unbuilt : w.passed ≤ length w.history → map_by e.reply ≡ None → frames_told more ≡ frames_told w
  frames-unbuilt passed none =
      frames-more passed ∙ frames_after-unbuilt (take w.passed w.history) (entries_of w) e none

-- a reply that built no MAP
pub no_map : (reply : Reply) → ((m : FrameMap) → reply ≡ replies.Built m → ⊥) → map_by reply ≡ None
no_map (replies.Built m) unbuilt = absurd (unbuilt m refl)
no_map (replies.Skipped n) unbuilt = refl
no_map (replies.Admitted placement) unbuilt = refl
no_map (replies.Changed placement) unbuilt = refl
no_map replies.Removed unbuilt = refl
no_map replies.Taken unbuilt = refl
no_map replies.Noted unbuilt = refl
no_map replies.Reserved unbuilt = refl
no_map (replies.Flow asked granted outstanding) unbuilt = refl
no_map (replies.Refused refusal) unbuilt = refl

-- the steps are as wide as before, where one frame more has a step
pub unwidened : (c : Config) (u : UseOverTime) (fs : List Frame) → IsOverTime c u fs → u.frames < 800 * u.width
    → IsReadyFor c u fs
unwidened c u fs is room = record {
  are = is.are;
  starts = is.starts;
  width = record {
    exponent = is.width.exponent;
    power = is.width.power;
    enough = omega (arith, room, is.are.count);
    least = λ more. omega (arith, is.width.least more);
  };
}

-- twice as wide, where it has none
pub widened : (c : Config) (u : UseOverTime) (marks : List Slots) (firsts lasts : List ℕ) (fs : List Frame)
    → IsOverTime c u fs
    → 800 * u.width ≤ u.frames
    → length marks ≡ 801 → ((i : ℕ) (s : Slots) → i ≤ 400 → get_or marks i s ≡ get_or u.marks (2 * i) s)
    → length firsts ≡ 801 → ((i d : ℕ) → i ≤ 400 → get_or firsts i d ≡ get_or u.firsts (2 * i) d)
    → length lasts ≡ 801 → ((i d : ℕ) → i ≤ 400 → get_or lasts i d ≡ get_or u.lasts (2 * i) d)
    → IsReadyFor c (record u { width = u.width * 2; marks = marks; firsts = firsts; lasts = lasts }) fs
widened c u marks firsts lasts fs is full long each long_firsts each_first long_lasts each_last =
    let w = u.width in
    let n : length fs ≡ 800 * w = omega (arith, full, is.are.count, is.width.enough) in
    let some : 0 < w = width-some (length fs) w is.width in
    record {
      are = record {
        count = is.are.count;
        long = long;
        total = is.are.total;
        marks = λ i s within.
            let same : w * 2 * i ≡ w * (2 * i) = omega arith in
            each i s (half-marks w i (length fs) some n within)
            ∙ is.are.marks (2 * i) s (omega (arith, within, same))
            ∙ ap (λ k. use_in c (take k fs)) (sym same);
      };
      starts = record {
        long_firsts = long_firsts;
        long_lasts = long_lasts;
        last = is.starts.last;
        firsts = λ i d within.
            let same : w * 2 * i ≡ w * (2 * i) = omega arith in
            each_first i d (half-marks w i (length fs) some n (omega (arith, within)))
            ∙ is.starts.firsts (2 * i) d (omega (arith, within, same))
            ∙ ap (λ k. start_of fs k) (sym same);
        lasts = λ i d later within.
            let same : w * 2 * i ≡ w * (2 * i) = omega arith in
            each_last i d (half-marks w i (length fs) some n within)
            ∙ is.starts.lasts (2 * i) d (omega (arith, later)) (omega (arith, within, same))
            ∙ ap (λ k. start_of fs (k - 1)) (sym same);
      };
      width = record {
        exponent = suc is.width.exponent;
        power = omega (arith, is.width.power, two-pow-succ is.width.exponent);
        enough = omega (arith, n, some);
        least = λ more. omega (arith, n);
      };
    }
