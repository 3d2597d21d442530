-- The use of minislots over time, in steps of so many frames each.
use Rattle.std.specs.Prelude.{◌≡◌, ℕ, ◌+◌, ◌-◌, ◌*◌, ◌/◌, ◌^◌, ◌<◌, ◌≤◌, List, take, drop, length, map, flat_map}
use Rattle.std.specs.Prelude.{sum_by, min, slice_index_or}
use Rattle.std.specs.List.{range_with_len}
use Rattle.minislots.specs.declared.config.Config.{Config}
use Rattle.frame_picture.specs.Frames.{Frame}
use Rattle.sched_report.specs.declared.slots.Slots.{Slots}
use Rattle.sched_report.specs.Uses.{slots_in}
use Rattle.report_picture.specs.declared.over_time.Step.{Step}

-- the minislots of some frames by their use, under this configuration
abbrev pub use_in : Config → List Frame → Slots
use_in c fs = record {
  data_grants = sum_by (λ f. (slots_in c f).data_grants) fs;
  idle = sum_by (λ f. (slots_in c f).idle) fs;
  open_idle = sum_by (λ f. (slots_in c f).open_idle) fs;
  opportunity = sum_by (λ f. (slots_in c f).opportunity) fs;
  poll = sum_by (λ f. (slots_in c f).poll) fs;
  request = sum_by (λ f. (slots_in c f).request) fs;
  unsolicited = sum_by (λ f. (slots_in c f).unsolicited) fs;
}

-- where the frame with a number starts, which is counted from 0
abbrev pub start_of : List Frame → ℕ → ℕ
start_of fs k = slice_index_or (map (λ f. f.built.start) fs) k 0

-- the frames of the step at a place, where a step has so many: the last one has those that are left
abbrev pub frames_at : ℕ → List Frame → ℕ → List Frame
frames_at width fs i = take width (drop (width * i) fs)

-- how many steps so many frames have
abbrev pub steps_of : ℕ → ℕ → ℕ
steps_of width n = (n + (width - 1)) / width

-- the step at a place: where its first and its last frame start, and the minislots of all its frames by their use
abbrev pub step_at : Config → ℕ → List Frame → ℕ → Step
step_at c width fs i = record {
  first = start_of fs (width * i);
  last = start_of fs (min (width * (i + 1)) (length fs) - 1);
  slots = use_in c (frames_at width fs i);
}

-- all steps
abbrev pub all_steps : Config → ℕ → List Frame → List Step
all_steps c width fs = map (step_at c width fs) (range_with_len 0 (steps_of width (length fs)))

-- So many frames have steps of this width: the least power of two with which there are no more than 800 of them
pub record IsWidth (n width : ℕ) : Type 0 where
  pub exponent : ℕ
  pub power : width ≡ 2 ^ exponent
  pub enough : n ≤ 800 * width
  pub least : 1 < width → 400 * width < n

-- the steps have all frames, each once, in their order
abbrev pub CoversEachFrame : Type 0
CoversEachFrame =
    (width : ℕ) → 0 < width → (fs : List Frame)
    → flat_map (frames_at width fs) (range_with_len 0 (steps_of width (length fs))) ≡ fs

-- there is one such width for so many frames, and no more than 800 steps
pub record HasOneWidth : Type 0 where
  pub one : (n a b : ℕ) → IsWidth n a → IsWidth n b → a ≡ b
  pub few : (n width : ℕ) → IsWidth n width → steps_of width n ≤ 800
