-- What is in an option that has something.
use Rattle.std.proofs.Common.{◌≡◌, refl}
use Rattle.std.specs.Prelude.{Option, None, Some, IsSome}

-- an option that has something is of it
pub found_of : {A : Type 0} (o : Option A) → IsSome o → (a : A) × (o ≡ Some a)
found_of None is = absurd (cc)
found_of (Some a) is = (a, refl)
