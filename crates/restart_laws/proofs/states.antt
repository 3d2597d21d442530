-- Situations that have one state, and what a state stands for.
pub mod States
pub mod Periodic
pub mod Legal
