pub mod LockWorld
pub mod Schedule
pub mod World
pub mod Grants
