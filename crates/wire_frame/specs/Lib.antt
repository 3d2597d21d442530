pub mod Polynomial
pub mod Checksum
pub mod Register
pub mod Request
pub mod MapFrame
pub mod Heard
pub mod Asking
