pub mod Differing
pub mod Read
pub mod Saying
mod Counting
pub mod Counted
mod Telling
pub mod Talking
pub mod Turning
mod Failing
pub mod OpeningLines
pub mod OpeningFaults
pub mod Holding
pub mod Front
pub mod GoingOn
