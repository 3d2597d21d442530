-- Runs: calls that are made one after the other on a scheduler without entries, and their answers.
pub mod Answered
pub mod Made
pub mod Leaving
pub mod Reasons
