-- Members of lists, of images of lists, and of what is chosen from lists.
use Rattle.std.proofs.Common.{◌≡◌, ℕ, zero, suc, ◌<◌, map, List, [], ◌∷◌, length, get_or}
use Rattle.std.proofs.Common.{Option, None, Some, refl, ap, ◌∙◌, Contains, arith}
use Rattle.std.specs.List.{AllByRecursion, filter_map, flat_map, cons_option}
use Rattle.periodic.proofs.Joined.{all-append}
use Rattle.map_build.proofs.SameSpots.{all-members}

-- the first member of a list
pub Contains-first : {X : Type 0} (x : X) (xs : List X) → Contains (x ∷ xs) x
Contains-first x xs = (0, omega arith, refl)

-- a member of the rest
pub Contains-later : {X : Type 0} (y : X) (xs : List X) (x : X) → Contains xs x → Contains (y ∷ xs) x
Contains-later y xs x (k, within, at) = (suc k, omega arith, at)

-- a member of an image
pub record IsImage {X Y : Type 0} (f : X → Y) (xs : List X) (y : Y) : Type 0 where
  pub origin : X
  pub member : Contains xs origin
  pub same : f origin ≡ y

later_image : {X Y : Type 0} (f : X → Y) (x : X) (xs : List X) (y : Y) → IsImage f xs y → IsImage f (x ∷ xs) y
later_image f x xs y image =
    record { origin = image.origin; member = Contains-later x xs image.origin image.member; same = image.same }

image_at : {X Y : Type 0} (f : X → Y) (xs : List X) (y : Y) (k : ℕ) → k < length (map f xs)
    → get_or (map f xs) k y ≡ y → IsImage f xs y
image_at f [] y k within at = absurd (omega arith)
image_at f (x ∷ xs) y zero within at = record { origin = x; member = Contains-first x xs; same = at }
image_at f (x ∷ xs) y (suc k) within at = later_image f x xs y (image_at f xs y k (omega arith) at)

-- each member of a mapped list is the image of one
pub Contains-map : {X Y : Type 0} (f : X → Y) (xs : List X) (y : Y) → Contains (map f xs) y → IsImage f xs y
Contains-map f xs y (k, within, at) = image_at f xs y k within at

chosen_at : {X Y : Type 0} (f : X → Option Y) (x : X) (xs : List X) (y : Y) (o : Option Y) → f x ≡ o
    → ((k : ℕ) → k < length (filter_map f xs) → get_or (filter_map f xs) k y ≡ y → IsImage f xs (Some y))
    → (k : ℕ) → k < length (cons_option o (filter_map f xs)) → get_or (cons_option o (filter_map f xs)) k y ≡ y
    → IsImage f (x ∷ xs) (Some y)
chosen_at f x xs y None is rest k within at = later_image f x xs (Some y) (rest k within at)
chosen_at f x xs y (Some z) is rest zero within at =
    record { origin = x; member = Contains-first x xs; same = is ∙ ap Some at }
chosen_at f x xs y (Some z) is rest (suc k) within at = later_image f x xs (Some y) (rest k (omega arith) at)

chosen_from : {X Y : Type 0} (f : X → Option Y) (xs : List X) (y : Y) (k : ℕ) → k < length (filter_map f xs)
    → get_or (filter_map f xs) k y ≡ y → IsImage f xs (Some y)
chosen_from f [] y k within at = absurd (omega arith)
chosen_from f (x ∷ xs) y k within at = chosen_at f x xs y (f x) refl (chosen_from f xs y) k within at

-- each member of what is chosen is said of one
pub Contains-filter_map : {X Y : Type 0} (f : X → Option Y) (xs : List X) (y : Y) → Contains (filter_map f xs) y
    → IsImage f xs (Some y)
Contains-filter_map f xs y (k, within, at) = chosen_from f xs y k within at

-- what holds of each that is said holds of all that is chosen
pub all-chosen : {X Y : Type 0} (P : Y → Type 0) (f : X → Option Y) (xs : List X)
    → ((x : X) (y : Y) → f x ≡ Some y → P y)
    → AllByRecursion P (filter_map f xs)
all-chosen P f xs each = all-members P (filter_map f xs) (λ y member. let image : IsImage f xs (Some y) =
    Contains-filter_map f xs y member in each image.origin y image.same)

-- what holds of all that each stands for holds of all these joined
pub all-flat_map : {X Y : Type 0} (P : Y → Type 0) (f : X → List Y) (xs : List X)
    → ((x : X) → Contains xs x → AllByRecursion P (f x)) → AllByRecursion P (flat_map f xs)
all-flat_map P f [] each = tt
all-flat_map P f (x ∷ xs) each = all-append P (f x) (flat_map f xs) (each x (Contains-first x xs))
    (all-flat_map P f xs (λ y member. each y (Contains-later x xs y member)))
