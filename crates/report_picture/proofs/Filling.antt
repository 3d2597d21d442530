-- One character of a template more.
use Rattle.std.proofs.Common.{◌≡◌, ℕ, ◌+◌, ◌<◌, List, length, take, get_or, ap, ◌∙◌, if◌then◌else◌}
use Rattle.std.proofs.lemmas.List.{take_more}
use Rattle.std.proofs.lemmas.List.Sums.{sum_by_push}
use Rattle.report_picture.specs.Filled.{is_hole, holes}

-- how many holes stand before the next character
pub holes-more : (cs : List ℕ) (i : ℕ) → i < length cs
    → holes (take (i + 1) cs) ≡ holes (take i cs) + (if is_hole (get_or cs i 0) then 1 else 0)
holes-more cs i below =
    ap holes (take_more cs i 0 below)
    ∙ sum_by_push (λ c. if is_hole c then 1 else 0) (take i cs) (get_or cs i 0)
