mod Known
mod Finding
mod Comparing
pub mod Growing
mod Places
mod Standing
mod Held
