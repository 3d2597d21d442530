pub mod Spot
pub mod Plays
pub mod Tokens
pub mod Turns
