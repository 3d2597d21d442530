pub mod Drawing
pub mod Recorded
pub mod Journal
