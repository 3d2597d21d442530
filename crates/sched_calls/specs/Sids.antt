-- Lists in order of SID, of whatever has an SID.
use Rattle.std.specs.Prelude.{ℕ, ◌<◌, not, nat_lt, ◌==◌, List, [], ◌∷◌, filter, if◌then◌else◌}
use Rattle.std.specs.List.{AllByRecursion}

-- SIDs ascend
abbrev pub AscendBy : {X : Type 0} → (X → ℕ) → List X → Type 0
AscendBy sid_of [] = Unit {0}
AscendBy sid_of (x ∷ xs) = AllByRecursion (λ y. sid_of x < sid_of y) xs × AscendBy sid_of xs

-- the members with one more, in order of SID
abbrev pub put_in : {X : Type 0} → (X → ℕ) → X → List X → List X
put_in sid_of x [] = x ∷ []
put_in sid_of x (y ∷ ys) = if nat_lt (sid_of x) (sid_of y) then x ∷ y ∷ ys else y ∷ put_in sid_of x ys

-- the members but those of this SID
abbrev pub taken_out : {X : Type 0} → (X → ℕ) → ℕ → List X → List X
taken_out sid_of sid xs = filter (λ x. not (sid_of x == sid)) xs
