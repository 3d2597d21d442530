pub mod Calls
pub mod Outcome
pub mod RowsFaults
pub mod Told
pub mod Documents
pub mod StormCalls
pub mod StormOutcome
pub mod RowsBursts
