pub mod Called
pub mod Opened
