-- Lists and options, of whatever they hold.
pub mod Latests
pub mod Numbered
pub mod Members
pub mod Leasts
