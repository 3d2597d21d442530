-- The latest of the members of a list that say something.
use Rattle.std.specs.Prelude.{◌-◌, List, [], ◌∷◌, length, take, Option, None, option_map}
use Rattle.std.specs.Option.{option_or}

-- what the latest member says, and the members after it
pub record Found (X Y : Type 0) : Type 0 where
  pub said : Y
  pub after : List X

-- the members of a list but so many at its end as this one has
abbrev pub up_to : {X : Type 0} → List X → List X → List X
up_to xs after = take (length xs - length after) xs

-- the latest of the members of which f says something
abbrev pub latest : {X Y : Type 0} → (X → Option Y) → List X → Option (Found X Y)
latest f [] = None
latest f (x ∷ xs) = option_or (latest f xs) (option_map (λ y. record { said = y; after = xs }) (f x))
