-- The live placements of a legal history: whose they are, how many, and when they recur.
pub mod Given
pub mod Counts
pub mod PeriodicFlows
pub mod PeriodicGrants
pub mod PlacedLives
pub mod SpotsFew
pub mod NominalTimes
pub mod Tables
