pub mod Bytes
pub mod Written
pub mod Outcome
pub mod TextTold
pub mod Profile
pub mod Taking
pub mod Reading
