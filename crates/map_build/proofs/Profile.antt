-- The limits in figures, which the definitions name by the constants of the code.
use Rattle.std.proofs.Common.{◌≡◌, ℕ, refl}
use Rattle.map_build.specs.declared.TheConstants.{MAX_DATA_GRANTS, MAX_WAITING}

-- the most data grants of a MAP
pub most_data_grants : ◌≡◌ {A = ℕ} MAX_DATA_GRANTS 93
most_data_grants = refl

-- the most opportunities that wait for one
pub most_waiting : ◌≡◌ {A = ℕ} MAX_WAITING 16
most_waiting = refl
