pub use Rattle.history_writing.specs.Json
pub mod StateText
pub mod Fits
pub mod Found
