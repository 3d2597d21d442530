pub mod Left
pub mod Spelled
pub mod Hexadecimal
pub mod Listed
