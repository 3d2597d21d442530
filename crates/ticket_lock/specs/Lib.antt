pub mod Row
pub mod Rule
pub mod Standing
pub mod Plays
pub mod Calls
pub mod Tokens
pub mod Laws
