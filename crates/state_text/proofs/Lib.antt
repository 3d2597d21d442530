mod Each
pub mod Ordered
pub mod Readable
pub mod Parts
pub mod FlowText
pub mod StateReadable
mod StateFound
mod StateRead
pub mod RowsReading
pub mod RowsState
