-- The limits in figures, which the definitions name by the constants of the code.
use Rattle.std.proofs.Common.{◌≡◌, ℕ, refl}
use Rattle.periodic.specs.declared.TheConstants.{MAX_SPOTS, MAX_STARTS}

-- the most starts of a frame
pub most_spots : ◌≡◌ {A = ℕ} MAX_SPOTS 40
most_spots = refl

-- the most starts of a placement
pub most_starts : ◌≡◌ {A = ℕ} MAX_STARTS 512
most_starts = refl
