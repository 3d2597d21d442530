pub mod Fields
pub mod Plain
pub mod Listed
pub mod Usual
