pub mod Adding
pub mod Beginnings
pub mod Entries
pub mod Growing
pub mod Names
pub mod Showing
