-- Steady flows of one state: what they have alike, and that they stay alike.
pub mod Batches
pub mod Fields
pub mod Charges
pub mod Levels
pub mod Under
pub mod Keeps
pub mod Grants
pub mod Changes
pub mod Carried
