pub mod Address
pub mod Capture
pub mod Items
pub mod Journal
pub mod Ran
