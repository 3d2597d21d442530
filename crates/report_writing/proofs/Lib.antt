pub mod Gathering
mod Refusals
mod Appended
mod RefusalsTold
mod LifeSamples
