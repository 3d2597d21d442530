pub mod Json
pub mod Tokens
pub mod HistoryText
pub mod Fits
pub mod Journal
