pub mod Workplace
pub mod Worker
