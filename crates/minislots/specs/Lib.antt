pub mod Bursts
pub mod Config
pub mod Products
pub mod Ranges
pub mod Sizes
pub mod Units
