-- The members of the refusals, place by place.
use Rattle.std.proofs.Common.{◌≡◌, ℕ, suc, ◌+◌, ◌<◌, List, length, get_or, drop, ap, ◌∙◌, arith}
use Rattle.std.specs.Prelude.{slice_index}
use Rattle.std.proofs.Math.Seq.{drop-cons}
use Rattle.report_writing.specs.Report.{with_refusals, refused_members}

-- the member at the first of the places that are left, and those behind it
pub refused_members-drop : (places counts : List ℕ) (i d : ℕ) → i < length places
    → refused_members (drop i places) counts
    ≡ with_refusals (get_or places i d) (slice_index counts (get_or places i d))
    (refused_members (drop (i + 1) places) counts)
refused_members-drop places counts i d below =
    let next : suc i ≡ i + 1 = omega arith in
    let place = get_or places i d in
    ap (λ (left : List ℕ). refused_members left counts) (drop-cons places i d below)
    ∙ ap (λ n. with_refusals place (slice_index counts place) (refused_members (drop n places) counts)) next
