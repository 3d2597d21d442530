-- Lists of which each member stands by those before it, with one member more behind.
use Rattle.std.proofs.Common.{List, [], ◌∷◌, ◌++◌, append_assoc}
use Rattle.std.proofs.lemmas.List.{append-nil}
use Rattle.map_build.specs.EachAfter.{EachAfter}

-- one member more behind, that stands by all before it
pub EachAfter-push : {X : Type 0} (P : List X → X → Type 0) (before xs : List X) (x : X) →
    EachAfter P before xs → P (before ++ xs) x → EachAfter P before (xs ++ x ∷ [])
EachAfter-push P before [] x each last = (rw append-nil at last, tt)
EachAfter-push P before (y ∷ ys) x each last =
    (each.0, EachAfter-push P (before ++ y ∷ []) ys x each.1 (rw append_assoc last))
