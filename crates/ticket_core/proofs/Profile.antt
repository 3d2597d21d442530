-- The lock's limit in figures, which the definitions name by the constant of the code.
use Rattle.std.proofs.Common.{◌≡◌, ℕ, refl}
use Rattle.ticket_core.specs.declared.TheConstants.{MAX_SEATS}

-- the most seats of a lock
pub most_seats : ◌≡◌ {A = ℕ} MAX_SEATS 64
most_seats = refl
