pub mod Ranges
pub mod Fronts
pub mod Places
