-- The use of the frames before and behind a mark.
use Rattle.std.proofs.Common.{◌≡◌, ℕ, ◌+◌, ◌-◌, ◌*◌, ◌<◌, ◌≤◌, List, ◌++◌, length, take, ap, sym, ◌∙◌, arith}
use Rattle.std.proofs.Math.Nat.{mul-div-le, mul-le-mul_left}
use Rattle.std.proofs.Math.Seq.{take-add}
use Rattle.std.proofs.lemmas.List.{take_all}
use Rattle.std.proofs.lemmas.List.Sums.{sum_by-append}
use Rattle.minislots.specs.declared.config.Config.{Config}
use Rattle.frame_picture.specs.Frames.{Frame}
use Rattle.sched_report.specs.Uses.{slots_in, sum_of}
use Rattle.sched_report.proofs.SlotLists.{same_slots}
use Rattle.report_picture.specs.OverTime.{use_in, frames_at, steps_of}

-- the use of some frames and of others
pub use_in-append : (c : Config) (fs gs : List Frame) → use_in c (fs ++ gs) ≡ sum_of (use_in c fs) (use_in c gs)
use_in-append c fs gs = same_slots _ _
    (sum_by-append (λ f. (slots_in c f).data_grants) fs gs) (sum_by-append (λ f. (slots_in c f).idle) fs gs)
    (sum_by-append (λ f. (slots_in c f).open_idle) fs gs)
    (sum_by-append (λ f. (slots_in c f).opportunity) fs gs) (sum_by-append (λ f. (slots_in c f).poll) fs gs)
    (sum_by-append (λ f. (slots_in c f).request) fs gs) (sum_by-append (λ f. (slots_in c f).unsolicited) fs gs)

-- the use up to the end of a step
pub use-next : (c : Config) (width : ℕ) (fs : List Frame) (i : ℕ)
    → use_in c (take (width * (i + 1)) fs) ≡ sum_of (use_in c (take (width * i) fs)) (use_in c (frames_at width fs i))
use-next c width fs i =
    let more : width * (i + 1) ≡ width * i + width = omega arith in
    ap (λ k. use_in c (take k fs)) more ∙ ap (use_in c) (take-add (width * i) width fs)
    ∙ use_in-append c (take (width * i) fs) (frames_at width fs i)

-- the use up to the end of the last step is that of all frames
pub use-all : (c : Config) (width : ℕ) (fs : List Frame) (i : ℕ) → length fs < width * (i + 1)
    → use_in c fs ≡ sum_of (use_in c (take (width * i) fs)) (use_in c (frames_at width fs i))
use-all c width fs i past =
    ap (use_in c) (sym (take_all (width * (i + 1)) fs (omega (arith, past)))) ∙ use-next c width fs i

-- a step begins with a frame
pub step-begins : (width n i : ℕ) → 0 < width → i < steps_of width n → width * i < n
step-begins width n i some below =
    let up : width * (i + 1) ≤ width * steps_of width n = mul-le-mul_left width (omega (arith, below)) in
    let most : width * steps_of width n ≤ n + (width - 1) = mul-div-le (n + (width - 1)) width in
    omega (arith, up, most, some)
