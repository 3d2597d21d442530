-- What follows for every legal history.
pub mod SoundLives
pub mod OnTime
pub mod Orderly
pub mod Ranging
pub mod ServedReserved
pub mod Settled
pub mod FactsOf
