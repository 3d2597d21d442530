mod Leaving
mod Faults
