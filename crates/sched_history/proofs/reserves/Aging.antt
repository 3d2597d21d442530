-- Reserves that a MAP did not meet, by the marks at their places: with one more behind.
use Rattle.std.proofs.Common.{◌≡◌, Bool, true, false, nat_lt, if◌then◌else◌, List, [], ◌∷◌, ◌++◌}
use Rattle.std.proofs.Common.{map, filter, length, get_or, ap, ◌∙◌, refl}
use Rattle.std.proofs.lemmas.List.{map-append}
use Rattle.std.proofs.lemmas.List.Elements.{filter-append}
use Rattle.sched_history.specs.declared.scheduler.reserves.Reserve.{Reserve}
use Rattle.sched_history.specs.Reserves.{last_map, older, aged, left_of, unmarked}

-- two lists of Reserves age as one
pub aged-append : (rs more : List Reserve) → aged (rs ++ more) ≡ aged rs ++ aged more
aged-append rs more =
    ap (filter (λ (r : Reserve). nat_lt r.maps last_map)) (map-append older rs more)
    ∙ filter-append (λ (r : Reserve). nat_lt r.maps last_map) (map older rs) (map older more)

unmarked-none : (met : List Bool) → unmarked met [] ≡ []
unmarked-none [] = refl
unmarked-none (b ∷ met) = refl

unmarked-one : (b : Bool) (met : List Bool) (r : Reserve)
    → (if b then unmarked met [] else r ∷ unmarked met []) ≡ left_of b r
unmarked-one true met r = unmarked-none met
unmarked-one false met r = ap (λ rs. r ∷ rs) (unmarked-none met)

unmarked-rest : (b : Bool) (r : Reserve) (rs more xs : List Reserve) → xs ≡ rs ++ more
    → (if b then xs else r ∷ xs) ≡ (if b then rs else r ∷ rs) ++ more
unmarked-rest true r rs more xs same = same
unmarked-rest false r rs more xs same = ap (λ ys. r ∷ ys) same

-- one Reserve more is left where no mark stands at its place
pub unmarked-push : (met : List Bool) (rs : List Reserve) (r : Reserve)
    → unmarked met (rs ++ r ∷ []) ≡ unmarked met rs ++ left_of (get_or met (length rs) false) r
unmarked-push [] rs r = refl
unmarked-push (b ∷ met) [] r = unmarked-one b met r
unmarked-push (b ∷ met) (x ∷ rs) r = unmarked-rest b x (unmarked met rs)
    (left_of (get_or met (length rs) false) r) (unmarked met (rs ++ r ∷ [])) (unmarked-push met rs r)

-- so what is left of one Reserve more stands behind what is left of the others
pub aged-push : (met : List Bool) (rs : List Reserve) (r : Reserve)
    → aged (unmarked met (rs ++ r ∷ [])) ≡ aged (unmarked met rs) ++ aged (left_of (get_or met (length rs) false) r)
aged-push met rs r =
    ap aged (unmarked-push met rs r) ∙ aged-append (unmarked met rs) (left_of (get_or met (length rs) false) r)
