pub mod Taken
pub mod Bytes
pub mod Digits
pub mod Lanes
