pub mod Script
pub mod Usual
pub mod Outcome
pub mod StormScript
pub mod Stops
