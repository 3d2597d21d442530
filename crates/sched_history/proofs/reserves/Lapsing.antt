-- How many Reserves lapse with a MAP, by the marks at their places: with one more behind.
use Rattle.std.proofs.Common.{◌≡◌, ◌∙◌, ℕ, ◌+◌, ◌<◌, Bool, true, false, if◌then◌else◌, cond, List, [], ◌∷◌}
use Rattle.std.proofs.Common.{take, length, get_or, count_by, refl, ap, arith}
use Rattle.std.specs.Prelude.{not, ◌&&◌}
use Rattle.std.proofs.lemmas.List.{take_more, length-take}
use Rattle.std.proofs.lemmas.List.Sums.{sum_by-append, sum_by-cons}
use Rattle.sched_history.specs.declared.scheduler.reserves.Reserve.{Reserve}
use Rattle.sched_history.specs.Reserves.{left_of, unmarked, is_last, lapses_of}
use Rattle.sched_history.proofs.reserves.Aging.{unmarked-push}

-- of none, none lapses
pub lapses-none : (met : List Bool) → 0 ≡ lapses_of met []
lapses-none [] = refl
lapses-none (b ∷ met) = refl

-- what lapses of one Reserve, which was met or not
pub lapses-one : (is_met : Bool) (r : Reserve) (last : Bool) → is_last r ≡ last
    → count_by is_last (left_of is_met r) ≡ (if not is_met && last then 1 else 0)
lapses-one true r last is = refl
lapses-one false r true is =
    sum_by-cons (λ (x : Reserve). cond {A = ℕ} (is_last x) 1 0) r [] ∙ ap (λ t. cond {A = ℕ} t 1 0 + 0) is
lapses-one false r false is =
    sum_by-cons (λ (x : Reserve). cond {A = ℕ} (is_last x) 1 0) r [] ∙ ap (λ t. cond {A = ℕ} t 1 0 + 0) is

-- what lapses of those up to a place, with the one there
pub lapses-next : (met : List Bool) (items : List Reserve) (place : ℕ) (d : Reserve) → place < length items
    → lapses_of met (take (place + 1) items) ≡ lapses_of met (take place items)
    + (if not (get_or met place false) && is_last (get_or items place d) then 1 else 0)
lapses-next met items place d within =
    let r = get_or items place d in
    let front = take place items in
    let long : length front ≡ place = omega (arith, length-take place items, within) in
    ap (λ rs. lapses_of met rs) (take_more items place d within)
    ∙ ap (λ rs. count_by is_last rs) (unmarked-push met front r)
    ∙ sum_by-append (λ (x : Reserve). cond {A = ℕ} (is_last x) 1 0) (unmarked met front)
    (left_of (get_or met (length front) false) r)
    ∙ ap (λ n. lapses_of met front + count_by is_last (left_of (get_or met n false) r)) long
    ∙ ap (λ n. lapses_of met front + n) (lapses-one (get_or met place false) r (is_last r) refl)
