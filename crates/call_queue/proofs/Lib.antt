pub mod Bits
pub mod Moved
pub mod Steps
pub mod Trays
pub mod Turned
