-- What is written at the front of a list, one after the other.
use Rattle.std.proofs.Common.{◌≡◌, ℕ, ◌+◌, ◌<◌, ◌≤◌, refl, sym, ap, ◌∙◌, List, [], ◌∷◌, ◌++◌, length, take, drop, map}
use Rattle.std.proofs.Common.{get_or, slice_set, arith}
use Rattle.std.proofs.lemmas.List.{take_more, take_more_set, map-append, drop-drop, drop-set-lt, length-set}
use Rattle.std.proofs.lemmas.List.{take-append-drop, take_all}

-- the first i of es stand in front of what was there, by f, and the rest is as it was
pub record StandSoFar {X Y : Type 0} (f : X → Y) (es : List X) (old out : List Y) (i : ℕ) : Type 0 where
  pub front : take i out ≡ map f (take i es)
  pub back : drop i out ≡ drop i old
  pub long : length out ≡ length old

-- at first none
pub stand_none : {X Y : Type 0} (f : X → Y) (es : List X) (old : List Y) → StandSoFar f es old old 0
stand_none f es old = record { front = refl; back = refl; long = refl }

-- then one more
pub stand_more : {X Y : Type 0} (f : X → Y) (es : List X) (old out : List Y) (i : ℕ) (d : X) → i < length es
    → length es ≤ length old → StandSoFar f es old out i
    → StandSoFar f es old (slice_set out i (f (get_or es i d))) (i + 1)
stand_more f es old out i d lt fits stands =
    let long = stands.long in
    let within : i < length out = omega arith in
    let y = f (get_or es i d) in
    record {
      front = take_more_set out i y within ∙ ap (λ xs. xs ++ y ∷ []) stands.front
          ∙ sym (map-append f (take i es) (get_or es i d ∷ [])) ∙ ap (map f) (sym (take_more es i d lt));
      back = drop-set-lt (i + 1) out i y (omega arith) ∙ sym (drop-drop 1 i out) ∙ ap (drop 1) stands.back
          ∙ drop-drop 1 i old;
      long = length-set out i y ∙ long;
    }

-- at last all
pub stand_all : {X Y : Type 0} (f : X → Y) (es : List X) (old out : List Y) → StandSoFar f es old out (length es)
    → out ≡ map f es ++ drop (length es) old
stand_all f es old out stands =
    sym (take-append-drop (length es) out)
    ∙ ap (λ xs. xs ++ drop (length es) out) (stands.front ∙ ap (map f) (take_all (length es) es (omega arith)))
    ∙ ap (λ ys. map f es ++ ys) stands.back
