pub mod Usage
pub mod Allocation
pub mod Text
pub mod Rows
pub mod Legend
