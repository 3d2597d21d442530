-- What holds of each member of a list together with those before it.
use Rattle.std.specs.Prelude.{List, [], ◌∷◌, ◌++◌}

-- P holds of each member with the ones before it, the first of the list coming after these
abbrev pub EachAfter : {X : Type 0} → (List X → X → Type 0) → List X → List X → Type 0
EachAfter P before [] = Unit {0}
EachAfter P before (x ∷ xs) = P before x × EachAfter P (before ++ x ∷ []) xs
