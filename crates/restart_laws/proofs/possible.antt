-- The state of a legal history is possible, part by part.
pub mod Effects
pub mod EffectOf
pub mod Legal
pub mod Headers
pub mod Times
pub mod Changes
pub mod Live
pub mod Flows
pub mod Counts
pub mod Since
pub mod Shown
pub mod Standing
pub mod Tables
pub mod Reserves
pub mod Places
pub mod FlowStates
pub mod States
