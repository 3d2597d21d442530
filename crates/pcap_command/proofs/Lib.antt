pub mod OnWire
pub mod Times
pub mod Entries
