pub mod Bounds
pub mod BurstLaws
pub mod Groups
pub mod ProductLaws
pub mod Ranges
mod Rows
pub mod UnitLaws
